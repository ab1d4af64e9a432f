-- In a root box the variables that are bound to nothing are the members of their classes that are listed.
use Rattle.std.proofs.Common.{◌≡◌, List, [], ◌∷◌, length, None, sym, ap, subst, ◌∙◌, inl, inr}
use Rattle.akl_terms.specs.declared.name.Var.{Var}
use Rattle.akl_terms.specs.declared.term.Node.{Node}
use Rattle.akl_terms.specs.declared.term.Term.{Term}
use Rattle.akl_terms.specs.Tree.{variable}
use Rattle.constraint_laws.specs.Touched.{IsAmong}
use Rattle.rational_unify.specs.Known.{found_in}
use Rattle.local_store.specs.Stored.{Stored}
use Rattle.local_store.specs.Chained.{bindings_from, IsKnown}
use Rattle.local_store.proofs.FormEnds.{end-free}
use Rattle.class_members.specs.Listed.{IsEndOfOne}
use Rattle.class_members.specs.Members.{AreMembers}
use Rattle.class_members.proofs.Whole.{whole_members}
use Rattle.plain_heads.specs.Joined.{AreFree}

free_among : (known : List (Var × Term)) (xs : List Var) (x : Var) → AreFree known xs → IsAmong x xs → found_in known x ≡ None
free_among known [] x h m = absurd m
free_among known (y ∷ xs) x h (inl e) = ap (found_in known) e ∙ h.0
free_among known (y ∷ xs) x h (inr m) = free_among known xs x h.1 m

module _ (nodes : List Node) (s : Stored) (k : IsKnown nodes (s ∷ []) (length (s ∷ []))) (xs : List Var) (h : AreFree (bindings_from (s ∷ [])) xs) where
  abbrev known : List (Var × Term)
  known = bindings_from (s ∷ [])

  itself : (r : Var) → IsEndOfOne nodes known xs r → IsAmong r xs
  itself r e =
      let p : variable r ≡ variable e.start = sym e.ends ∙ end-free nodes known e.start (free_among known xs e.start h e.among) in
      let q : e.start ≡ r = cc in
      subst (λ (x : Var). IsAmong x xs) q e.among

  pub root_members : AreMembers nodes (s ∷ []) xs xs
  root_members = whole_members nodes (s ∷ []) k xs xs (record {
    each = λ y m. inl (record { start = y; among = m; ends = end-free nodes known y (free_among known xs y h m) });
    ends = itself;
    others = λ y r m. absurd m;
  })
