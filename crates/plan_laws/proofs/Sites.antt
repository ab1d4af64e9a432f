-- A label adds equations to the box of its place alone.
use Rattle.std.proofs.Common.{◌≡◌, List, [], ◌∷◌, ◌++◌, sym, ◌∙◌, ap}
use Rattle.std.specs.Prelude.{slice_index}
use Rattle.akl_terms.specs.declared.name.Name.{Name}
use Rattle.akl_terms.specs.declared.program.Program.{Program}
use Rattle.akl_terms.specs.declared.program.Query.{Query}
use Rattle.akl_model.specs.declared.label.Rule.{Rule}
use Rattle.akl_model.specs.declared.label.Label.{Label}
use Rattle.akl_model.specs.Config.{Content, Config, Found}
use Rattle.akl_model.specs.Derivations.{Applies, Replays}
use Rattle.akl_model.specs.Changes.{Adds}
use Rattle.akl_model.proofs.NamesKept.{box-itself}
use Rattle.step_laws.proofs.Steps.{Moved, aside, at_site, inside}
use Rattle.plan_laws.proofs.Moves.{moved}
use Rattle.plan_laws.proofs.Replayed.{good_replay, replay_further}

pub adds_at_site : (rules : List Rule) (p : Program) (q : Query) (journal : List Label) (c : Config) (l : Label) (d : Config) → Replays rules p q journal c → (a : Applies rules p c l d)
    → (n : Name) → Adds c d n → n ≡ a.site.content.name
adds_at_site rules p q journal c l d r a n x = on (moved rules p c l d (good_replay rules p q journal c r) (good_replay rules p q (journal ++ l ∷ []) d (replay_further rules p q journal c l d r a)) a n x.before x.afterwards x.was x.is)
  where
    on : Moved l.worker (slice_index c.next l.worker) a.site a.change x.before x.afterwards → n ≡ a.site.content.name
    on (aside m) = absurd (x.more (ap (λ (b : Content). b.equations) m.content))
    on (at_site k s t) = box-itself n c.roots x.before x.was ∙ ap (λ (u : Found). u.content.name) s
    on (inside k j i1 i2 s t) = absurd (x.more (ap (λ (u : Found). u.content.equations) t ∙ sym (ap (λ (u : Found). u.content.equations) s)))
