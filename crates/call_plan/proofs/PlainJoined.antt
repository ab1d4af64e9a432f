-- What an alternative makes of the store that it joins: with plain bindings its guard holds.
use Rattle.std.proofs.Common.{◌≡◌, ◌+◌, List, [], ◌∷◌, ◌++◌, length, true, refl, sym, subst, arith}
use Rattle.akl_terms.specs.declared.name.Name.{Name}
use Rattle.akl_terms.specs.declared.name.Var.{Var}
use Rattle.akl_terms.specs.declared.term.Node.{Node}
use Rattle.akl_terms.specs.declared.term.Term.{Term}
use Rattle.akl_terms.specs.declared.program.Op.{Op}
use Rattle.akl_terms.specs.Equal.{IsConsistentBy}
use Rattle.rational_unify.proofs.FormLaws.{form-consistent}
use Rattle.local_store.specs.declared.telling.ToldPart.{ToldPart}
use Rattle.local_store.specs.Parts.{told_over}
use Rattle.local_store.specs.Promoting.{AnswersPromoted}
use Rattle.local_store.specs.Stored.{Stored}
use Rattle.local_store.specs.Chained.{bindings_from, ToldBy, IsKnown, innermost, around}
use Rattle.table_laws.proofs.StoreChains.{around_push}
use Rattle.guard_plan.specs.Guards.{KeepsApartInside, IsQuietInside}
use Rattle.plain_heads.specs.Plain.{ArePlain}
use Rattle.plain_heads.specs.Joined.{own_store, AreFree}
use Rattle.plain_heads.proofs.Members.{root_members}
use Rattle.plain_heads.proofs.Quiet.{quiet_plain}
use Rattle.class_members.specs.Members.{AreMembers}
use Rattle.call_plan.specs.declared.own.Own.{Own}
use Rattle.call_plan.specs.Joins.{HoldsFor, Joins}
use Rattle.call_plan.specs.Owns.{is_plain, BindsFree}
use Rattle.call_plan.proofs.HeadStores.{front_solved}

module _ (nodes : List Node) (path : List Stored) (frame : Name) (bs : List (Var × Term)) (plain : ArePlain nodes (bindings_from path) frame bs) (k : IsKnown nodes (path ++ own_store frame bs ∷ []) (length path + 1))
    (apart : KeepsApartInside nodes (path ++ own_store frame bs ∷ [])) where
  consistent : IsConsistentBy (ToldBy nodes (around (path ++ own_store frame bs ∷ [])))
  consistent = subst (λ (ss : List Stored). IsConsistentBy (ToldBy nodes ss)) (sym (around_push path (own_store frame bs)))
      (form-consistent nodes (bindings_from path) (ToldBy nodes path) (front_solved nodes path (own_store frame bs) k).form)

  pub plain_quiet : IsQuietInside nodes (path ++ own_store frame bs ∷ [])
  plain_quiet = quiet_plain nodes path frame bs plain k (apart consistent)

  pub plain_holds : (op : Op) → (op ≡ Op.Collect → ⊥) → HoldsFor op nodes (path ++ own_store frame bs ∷ [])
  plain_holds Op.Choice n = tt
  plain_holds Op.Condition n = plain_quiet
  plain_holds Op.Commit n = plain_quiet
  plain_holds Op.Collect n = absurd (n refl)

-- in a root box what is bound to nothing is all that is listed of its classes
pub one_store : (nodes : List Node) (ss : List Stored) → length ss ≡ 1 → IsKnown nodes ss (length ss) → (xs : List Var) → AreFree (bindings_from ss) xs → AreMembers nodes ss xs xs
one_store nodes [] e k xs h = absurd (omega (arith, e))
one_store nodes (s ∷ []) e k xs h = root_members nodes s k xs h
one_store nodes (s ∷ t ∷ ss) e k xs h = absurd (omega (arith, e))

-- what plain bindings bind or make equal is bound to nothing
pub plain_free : (path : List Stored) (own : Own) (xs : List Var) → is_plain own ≡ true → BindsFree path own xs → AreFree (bindings_from path) xs
plain_free path (Own.Plain bs) xs e h = h
plain_free path (Own.Store s) xs e h = cc

-- what a store makes of the one around it joins the innermost store of a path
pub store_joins : (nodes : List Node) (path : List Stored) (op : Op) (own : Stored) (told : ToldPart) → HoldsFor op nodes (path ++ own ∷ [])
    → AnswersPromoted nodes (path ++ own ∷ []) (length path + 1) (told_over (innermost (around (path ++ own ∷ []))) told) → Joins nodes path op own (told_over (innermost path) told)
store_joins nodes path op own told h a = record {
  holds = h;
  promoted = subst (λ (ss : List Stored). AnswersPromoted nodes (path ++ own ∷ []) (length path + 1) (told_over (innermost ss) told)) (around_push path own) a;
}
