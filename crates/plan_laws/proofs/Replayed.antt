-- What the replay of a journal keeps, and the replay of one label more.
use Rattle.std.proofs.Common.{List, [], ◌∷◌, ◌++◌, refl}
use Rattle.akl_terms.specs.declared.program.Program.{Program}
use Rattle.akl_terms.specs.declared.program.Query.{Query}
use Rattle.akl_model.specs.declared.label.Rule.{Rule}
use Rattle.akl_model.specs.declared.label.Label.{Label}
use Rattle.akl_model.specs.Config.{Config}
use Rattle.akl_model.specs.Instances.{start}
use Rattle.akl_model.specs.Derivations.{Applies, Replays}
use Rattle.akl_model.proofs.Results.{Derives-append}
use Rattle.akl_model.proofs.NamesKept.{replay-stands}
use Rattle.akl_model.proofs.ScopesKept.{replay_owned}
use Rattle.plan_laws.proofs.InScope.{Good}

pub good_replay : (rules : List Rule) (p : Program) (q : Query) (journal : List Label) (c : Config) → Replays rules p q journal c → Good c
good_replay rules p q journal c r = record { stand = replay-stands rules p q journal c r; owned = replay_owned rules p q journal c r }

pub replay_further : (rules : List Rule) (p : Program) (q : Query) (journal : List Label) (c : Config) (l : Label) (d : Config) → Replays rules p q journal c → Applies rules p c l d → Replays rules p q (journal ++ l ∷ []) d
replay_further rules p q journal c l d r a = record { derives = Derives-append rules p (start p q) c d journal (l ∷ []) r.derives (d, a, refl) }
