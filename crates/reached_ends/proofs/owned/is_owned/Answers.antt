use Rattle.std.proofs.Common.{◌≡◌, ℕ, zero, suc, ◌<◌, List, [], ◌∷◌, length, get_or, true, sym, ◌∙◌, ap, inl, inr, arith}
use Rattle.akl_terms.specs.declared.name.Name.{Name}
use Rattle.local_store.specs.Stored.{Stored, is_named}
use Rattle.reached_ends.specs.Reached.{IsOwned}
use Rattle.reached_ends.proofs.owned.is_owned.Goals as goal

owned_at : (ss : List Stored) (i : ℕ) (s d : Stored) (n : Name) → i < length ss → s ≡ get_or ss i d → is_named s.frames n ≡ true → IsOwned ss n
owned_at [] i s d n l e h = absurd (omega arith)
owned_at (t ∷ ss) zero s d n l e h = inl (sym (ap (λ (k : Stored). is_named k.frames n) e) ∙ h)
owned_at (t ∷ ss) (suc i) s d n l e h = inr (owned_at ss i s d n (omega arith) e h)

pub returns-then-has_frame : goal.returns-then-has_frame
returns-then-has_frame c = λ t. owned_at c.args.stores.now c.loop-store.store-index c.get.result.now _ c.args.frame c.loop-store-test.true (c.get.ensures ∙ c.store-item.is) (sym c.has_frame.ensures ∙ c.if-has_frame.true)
