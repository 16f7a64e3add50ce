-- What each variable of a pattern captures. Variables are known by their names, and in a kernel by
-- numbers.
use Rattle.std.specs.Prelude.{Bool, true, false, Option, Some, None, bytes_eq, if◌then◌else◌}
use Rattle.cd_syntax.specs.Name.{Name}
use Rattle.cd_model.specs.Thing.{Thing}

-- None of a variable that captures nothing
abbrev pub Captures : Type 0 → Type 0
Captures K = K → Option Thing

abbrev pub nothing : {K : Type 0} → Captures K
nothing variable = None

abbrev pub just : Name → Thing → Captures Name
just variable d name = if bytes_eq variable name then Some d else None

abbrev pub or_else : {X : Type 0} → Option X → Option X → Option X
or_else (Some x) other = Some x
or_else None other = other

abbrev pub joined : {K : Type 0} → Captures K → Captures K → Captures K
joined first second variable = or_else (first variable) (second variable)

-- where both take, the captures of both
abbrev pub both : {K : Type 0} → Option (Captures K) → Option (Captures K) → Option (Captures K)
both (Some first) (Some second) = Some (joined first second)
both _ _ = None

-- a test captures nothing
abbrev pub if_so : {K : Type 0} → Bool → Option (Captures K)
if_so true = Some nothing
if_so false = None
