-- Marks stay right where what labels bind is marked.
use Rattle.std.proofs.Common.{◌≡◌, ◌+◌, List, [], ◌∷◌, ◌++◌, length, refl, sym, ◌∙◌, subst, ◌⊎◌, inl, inr, arith}
use Rattle.std.proofs.lemmas.List.{length-append}
use Rattle.akl_terms.specs.declared.name.Var.{Var}
use Rattle.akl_terms.specs.declared.program.Program.{Program}
use Rattle.akl_terms.specs.declared.program.Query.{Query}
use Rattle.constraint_laws.specs.Touched.{IsAmong}
use Rattle.akl_model.specs.declared.label.Rule.{Rule}
use Rattle.akl_model.specs.declared.label.Label.{Label}
use Rattle.akl_model.specs.Config.{Config}
use Rattle.akl_model.specs.Derivations.{Applies, Derives, Replays}
use Rattle.step_laws.specs.Bound.{AreBoundIn}
use Rattle.reading_laws.specs.Ends.{SparesEnd}
use Rattle.reading_laws.specs.Marks.{IsMark}
use Rattle.reading_laws.proofs.Marked.{last_mark, old_mark}
use Rattle.reading_laws.proofs.Unlisted.{unlisted}
use Rattle.table_laws.specs.Rows.{Table}
use Rattle.table_laws.specs.Stamped.{Run, followed_by, IsTableOf, AreMarked}
use Rattle.table_laws.specs.Marks.{Marks}

pub marks_start : (rules : List Rule) (p : Program) (q : Query) (T : Table) → ((x : Var) → T.mark_of x ≡ 0) → AreMarked rules (record { program = p; query = q; journal = [] }) T
marks_start rules p q T none = record { each = λ x. subst (IsMark rules p q [] x) (sym (none x)) (last_mark rules p q [] x) }

-- labels that bind nothing else as an end
pub marks_on : (rules : List Rule) (r : Run) (T U : Table) (c : Config) (ls : List Label) (d : Config) → Replays rules r.program r.query r.journal c → (w : Derives rules r.program c ls d)
    → U.steps ≡ length (r.journal ++ ls) → (list : List Var) → ((x : Var) → (IsAmong x list → ⊥) → SparesEnd rules r.program c ls d w x) → Marks list T U → AreMarked rules r T → AreMarked rules (record r { journal = r.journal ++ ls }) U
marks_on rules r T U c ls d replays w steps list spares marks old = record { each = λ x. on x (marks.each x) }
  where
    on : (x : Var) → (U.mark_of x ≡ U.steps) ⊎ ((IsAmong x list → ⊥) × (U.mark_of x ≡ T.mark_of x)) → IsMark rules r.program r.query (r.journal ++ ls) x (U.mark_of x)
    on x (inl e) = subst (IsMark rules r.program r.query (r.journal ++ ls) x) (sym (e ∙ steps)) (last_mark rules r.program r.query (r.journal ++ ls) x)
    on x (inr (n, e)) = subst (IsMark rules r.program r.query (r.journal ++ ls) x) (sym e) (old_mark rules r.program r.query r.journal c ls d x (T.mark_of x) replays w (spares x n) (old.each x))

pub marks_step : (rules : List Rule) (r : Run) (T U : Table) (l : Label) (d : Config) (t : IsTableOf rules r T) (a : Applies rules r.program t.config l d) → U.steps ≡ T.steps + 1
    → (list : List Var) → AreBoundIn t.config d a.site list → Marks list T U → AreMarked rules r T → AreMarked rules (followed_by r l) U
marks_step rules r T U l d t a steps list bound marks old = marks_on rules r T U t.config (l ∷ []) d t.replays (d, a, refl) number list
    (λ x absent. (unlisted rules r.program r.query r.journal t.config l d t.replays a list bound x absent, tt)) marks old
  where
    number : U.steps ≡ length (r.journal ++ l ∷ [])
    number = let e : T.steps ≡ length r.journal = t.stamped.steps in let h : length (r.journal ++ l ∷ []) ≡ length r.journal + length (l ∷ []) = length-append r.journal (l ∷ []) in omega arith
