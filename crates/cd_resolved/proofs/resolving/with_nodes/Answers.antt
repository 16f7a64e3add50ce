use Rattle.std.proofs.Common.{◌++◌, [], ◌∷◌, sym, ap, subst, ◌∙◌}
use Rattle.cd_syntax.specs.TypeTree.{Declarations}
use Rattle.cd_model.specs.AllOf.{AllOf}
use Rattle.cd_model.specs.Formula.{Graph}
use Rattle.cd_program.specs.PlainProgram.{plain_program}
use Rattle.cd_resolve.specs.Faults.{Fault, IsFaultOfDeclarations}
use Rattle.cd_resolve.specs.Named.{AreNamed, plain_names}
use Rattle.cd_graph.specs.Nodes.{nodes}
use Rattle.cd_resolved.specs.Inner.PlainParts.{functions_of, trees_of}
use Rattle.cd_resolved.specs.Inner.SoundInterfaces.{HasSoundInterface}
use Rattle.cd_resolved.specs.Inner.SoundPatterns.{IsSoundPattern}
use Rattle.cd_resolved.specs.Resolved.{HasKernel, HasNodes}
use Rattle.cd_resolved.proofs.GraphsGrow.{names_grown}
use Rattle.cd_resolved.proofs.ProgramResolved.{is_resolved}
use Rattle.cd_resolved.proofs.SoundParts.{sound_patterns, sound_interfaces, declarations_sound}
use Rattle.cd_resolved.proofs.resolving.with_nodes.Goals as goal

pub kernels_of-requires-clause-names_sound : goal.kernels_of-requires-clause-names_sound
kernels_of-requires-clause-names_sound c =
    subst (λ types. (fault : Fault) → IsFaultOfDeclarations types fault → ⊥) (sym c.requires.declared)
    (declarations_sound (plain_program c.args.program.now) c.requires.well_made c.requires.sound)

pub kernels_of-requires-clause-patterns : goal.kernels_of-requires-clause-patterns
kernels_of-requires-clause-patterns c =
    subst (λ types. AllOf (IsSoundPattern types) (trees_of c.as_slice.result.now)) (sym c.requires.declared)
    (subst (AllOf (IsSoundPattern (plain_program c.args.program.now).types))
    (sym (ap trees_of c.as_slice.ensures.value ∙ c.requires.patterns))
    (sound_patterns (plain_program c.args.program.now) c.requires.well_made c.requires.sound))

pub interfaces_of-requires-clause-named : goal.interfaces_of-requires-clause-named
interfaces_of-requires-clause-named c =
    subst (λ (g : Graph). AreNamed g (plain_names c.args.names.now)) (sym c.in_ok-graph.ensures)
    (names_grown (nodes c.args.asked) (nodes c.kernels_of.new.graph) (plain_names c.args.names.now) c.knows.ensures.sound
    c.in_ok-kernels.ensures.grows c.requires.named)

pub interfaces_of-requires-clause-names_sound : goal.interfaces_of-requires-clause-names_sound
interfaces_of-requires-clause-names_sound c =
    subst (λ types. (fault : Fault) → IsFaultOfDeclarations types fault → ⊥) (sym c.requires.declared)
    (declarations_sound (plain_program c.args.program.now) c.requires.well_made c.requires.sound)

pub interfaces_of-requires-clause-interfaces : goal.interfaces_of-requires-clause-interfaces
interfaces_of-requires-clause-interfaces c =
    subst (λ types. AllOf (HasSoundInterface types) (functions_of c.as_slice-2.result.now)) (sym c.requires.declared)
    (subst (AllOf (HasSoundInterface (plain_program c.args.program.now).types))
    (sym (ap functions_of c.as_slice-2.ensures.value ∙ c.requires.functions))
    (sound_interfaces (plain_program c.args.program.now) c.requires.well_made c.requires.sound))

pub returns-clause-resolved : goal.returns-clause-resolved
returns-clause-resolved c =
    let program = plain_program c.args.program.now in
    let patterns = c.in_ok-kernels.ensures.patterns ∙ ap trees_of c.as_slice.ensures.value ∙ c.requires.patterns in
    let functions = c.in_ok-interfaces.ensures.functions ∙ ap functions_of c.as_slice-2.ensures.value ∙ c.requires.functions in
    is_resolved program _ (c.requires.found.program_is) (record {
      well_made = c.requires.well_made;
      sound = c.requires.sound;
      places_differ = c.requires.places;
      starts_differ = c.requires.starts;
      patterns = patterns;
      kernels = subst (λ (types : Declarations). AllOf (HasKernel (types ∷ []) (nodes c.kernels_of.new.graph))
          c.in_ok-kernels.kernels.items) c.requires.declared c.in_ok-kernels.ensures.kernels;
      starts = c.requires.found.starts;
      functions = functions;
      interfaces = subst (λ (types : Declarations). AllOf (HasNodes (types ∷ []) (nodes c.interfaces_of.new.graph))
          c.in_ok-interfaces.interfaces.items) c.requires.declared c.in_ok-interfaces.ensures.interfaces;
      sites = c.requires.sites;
      asked_sound = c.in_ok-kernels.ensures.sound;
      graph_sound = c.in_ok-interfaces.ensures.sound;
      grown = (
        c.in_ok-interfaces.ensures.grows.0,
        c.in_ok-interfaces.ensures.grows.1 ∙ ap (λ g. g ++ c.in_ok-interfaces.ensures.grows.0) c.in_ok-graph.ensures,
      );
    })
