-- What is listed over the stores of a chain that is known to be solved is enough members.
use Rattle.std.proofs.Common.{◌≡◌, List, [], ◌∷◌, ◌++◌, length, get_or, ◌≤◌, ◌<◌, None, refl, sym, ap, subst, ◌∙◌, take, drop, append-nil, arith}
use Rattle.akl_terms.specs.declared.name.Var.{Var}
use Rattle.akl_terms.specs.declared.term.Node.{Node}
use Rattle.akl_terms.specs.declared.term.Term.{Term}
use Rattle.constraint_laws.specs.Touched.{IsAmong}
use Rattle.rational_unify.specs.Known.{IsSolved, found_in}
use Rattle.rational_unify.specs.Forms.{Takes}
use Rattle.rational_unify.proofs.Taking.{take-all}
use Rattle.local_store.specs.Stored.{Stored}
use Rattle.local_store.specs.Chained.{bindings_from, IsKnown}
use Rattle.local_store.proofs.Known.{whole-known}
use Rattle.local_store.proofs.Layers.{takes-none}
use Rattle.class_members.specs.Members.{AreMembers}
use Rattle.class_members.specs.Listed.{AreListed, candidates_of}
use Rattle.class_members.proofs.Enough.{are_members, members_unbound}

none-left : (ss : List Stored) → drop (length ss) ss ≡ []
none-left [] = refl
none-left (s ∷ ss) = none-left ss

-- nothing stands inside one store
no_candidates : (ss : List Stored) → length ss ≡ 1 → candidates_of ss [] ≡ []
no_candidates [] e = refl
no_candidates (s ∷ []) e = refl
no_candidates (s ∷ t ∷ ss) e = absurd (omega arith)

pub only : (of : List Var) (d : Var) → 1 ≤ length of → length of < 2 → of ≡ get_or of 0 d ∷ []
only [] d l h = absurd (omega arith)
only (x ∷ []) d l h = refl
only (x ∷ y ∷ of) d l h = absurd (omega arith)

pub alone_listed : (nodes : List Node) (bs : List (Var × Term)) (ss : List Stored) (of : List Var) (x : Var) (list : List Var) → length ss ≡ 1 → of ≡ x ∷ []
    → AreListed nodes bs (x ∷ []) [] list → AreListed nodes bs of (candidates_of ss []) list
alone_listed nodes bs ss of x list e q l = subst (λ (cs : List Var). AreListed nodes bs of cs list) (sym (no_candidates ss e)) (subst (λ (xs : List Var). AreListed nodes bs xs [] list) (sym q) l)

module _ (nodes : List Node) (ss : List Stored) (h : IsKnown nodes ss (length ss)) (of list : List Var) (l : AreListed nodes (bindings_from ss) of (candidates_of ss []) list) where
  all : take (length ss) ss ≡ ss
  all = take-all ss (length ss) refl

  outer : bindings_from (take (length ss) ss) ++ [] ≡ bindings_from ss
  outer = append-nil (bindings_from (take (length ss) ss)) ∙ ap bindings_from all

  takes : Takes nodes (bindings_from (take (length ss) ss)) [] [] (bindings_from (drop (length ss) ss))
  takes = subst (λ (rs : List Stored). Takes nodes (bindings_from (take (length ss) ss)) [] [] (bindings_from rs)) (sym (none-left ss))
      (takes-none nodes (bindings_from (take (length ss) ss)) [] (subst (IsSolved nodes) (sym outer) (whole-known nodes ss (length ss) h refl).form.solved))

  listed : AreListed nodes (bindings_from (take (length ss) ss) ++ []) of (candidates_of (take (length ss) ss) []) list
  listed = subst (λ (rs : List Stored). AreListed nodes (bindings_from (take (length ss) ss) ++ []) of (candidates_of rs []) list) (sym all)
      (subst (λ (bs : List (Var × Term)). AreListed nodes bs of (candidates_of ss []) list) (sym outer) l)

  pub whole_members : AreMembers nodes ss of list
  whole_members = are_members nodes ss (length ss) h [] takes of list listed

  pub whole_unbound : 1 ≤ length ss → (y : Var) → IsAmong y list → found_in (bindings_from (take 1 ss)) y ≡ None
  whole_unbound some y m = members_unbound nodes ss (length ss) h [] takes of list listed some y m
