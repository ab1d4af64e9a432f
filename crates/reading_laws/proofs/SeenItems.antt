-- Items that no label behind a front changed, by their stamps.
use Rattle.std.proofs.Common.{◌≡◌, ℕ, ◌+◌, ◌≤◌, List, [], ◌∷◌, ◌++◌, length, refl, sym, subst, arith, append_assoc}
use Rattle.std.proofs.lemmas.List.{length-append}
use Rattle.akl_terms.specs.declared.program.Program.{Program}
use Rattle.akl_terms.specs.declared.program.Query.{Query}
use Rattle.akl_model.specs.declared.item.Item.{Item}
use Rattle.akl_model.specs.declared.label.Rule.{Rule}
use Rattle.akl_model.specs.declared.label.Label.{Label}
use Rattle.akl_model.specs.Config.{Config}
use Rattle.akl_model.specs.Changes.{by_binding, IsLastChange}
use Rattle.akl_model.specs.Derivations.{Derives, Replays}
use Rattle.reading_laws.specs.Unchanged.{Unchanged}
use Rattle.plan_laws.proofs.Replayed.{replay_further}

pub seen_unchanged : (rules : List Rule) (p : Program) (q : Query) (journal further : List Label) (c d : Config) (item : Item) (k : ℕ) → Replays rules p q journal c → (w : Derives rules p c further d)
    → IsLastChange by_binding rules p q (journal ++ further) item k → k ≤ length journal → Unchanged rules p c further d w item
seen_unchanged rules p q journal [] c d item k r w s h = tt
seen_unchanged rules p q journal (l ∷ ls) c d item k r w s h = (
  λ x. s.none_later (length journal + 1) (omega arith)
      (record { earlier = journal; label = l; later = ls; is_journal = refl; is_number = refl; before = c; afterwards = w.0; derived = r; applies = w.1; changes = x }),
  seen_unchanged rules p q (journal ++ l ∷ []) ls w.0 d item k (replay_further rules p q journal c l w.0 r w.1) w.2 (subst (λ (j : List Label). IsLastChange by_binding rules p q j item k) (sym (append_assoc journal (l ∷ []) ls)) s)
      (let e : length (journal ++ l ∷ []) ≡ length journal + length (l ∷ []) = length-append journal (l ∷ []) in omega arith),
)
