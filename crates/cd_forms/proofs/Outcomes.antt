-- What follows of a result from two clauses of a call.
use Rattle.std.proofs.Common.{Result, Ok, Err, IfOk, OnOk}

pub both_ok : {T E : Type 0} (result : Result T E) (P R : T → Type 0) (Q : Type 0)
    → ((x : T) → P x → Q → R x) → IfOk result P → OnOk result Q → IfOk result R
both_ok (Ok x) P R Q leads one other = leads x one other
both_ok (Err e) P R Q leads one other = tt
