-- Plain bindings are quiet.
use Rattle.std.proofs.Common.{◌≡◌, ℕ, ◌+◌, ◌-◌, List, [], ◌∷◌, ◌++◌, length, take, drop, refl, sym, ap, subst, ◌∙◌, inl, arith}
use Rattle.std.specs.List.{AllByRecursion}
use Rattle.akl_terms.specs.declared.name.Name.{Name}
use Rattle.akl_terms.specs.declared.name.Var.{Var}
use Rattle.akl_terms.specs.declared.term.Node.{Node}
use Rattle.akl_terms.specs.declared.term.Term.{Term}
use Rattle.akl_terms.specs.Equal.{IsTold}
use Rattle.akl_terms.specs.Touching.{IsLocal, IsOutside}
use Rattle.akl_terms.specs.Tree.{variable}
use Rattle.constraint_laws.specs.Touched.{IsAmong}
use Rattle.rational_unify.specs.Known.{end_of}
use Rattle.rational_unify.specs.Forms.{IsFormOf, Takes}
use Rattle.rational_unify.proofs.FormLaws.{form-consistent}
use Rattle.local_store.specs.Stored.{Stored}
use Rattle.local_store.specs.Chained.{bindings_from, IsKnown}
use Rattle.local_store.proofs.Layers.{end-extends}
use Rattle.local_store.proofs.Parts.{takes-part, from-split}
use Rattle.entail_test.specs.Asked.{frames_from, environment_at, own_at, KeepsApartAt, IsQuietAt, AreCandidates}
use Rattle.entail_test.specs.Classes.{AreClasses}
use Rattle.entail_test.proofs.Answering.{quiet-none, whole-form}
use Rattle.entail_test.proofs.Ends.{are_touched}
use Rattle.entail_test.proofs.Enough.{ends-outside, enough}
use Rattle.plain_heads.specs.Joined.{own_store}
use Rattle.plain_heads.specs.Plain.{ArePlain}
use Rattle.plain_heads.proofs.Stores.{long_last, own_bindings, solved}

drop_last : (ss : List Stored) (s : Stored) (k : ℕ) → k ≡ length ss → drop k (ss ++ s ∷ []) ≡ s ∷ []
drop_last ss s k e = ap (λ (n : ℕ). drop n (ss ++ s ∷ [])) e ∙ on ss
  where
    on : (ss : List Stored) → drop (length ss) (ss ++ s ∷ []) ≡ s ∷ []
    on [] = refl
    on (t ∷ ss) = on ss

module _ (nodes : List Node) (path : List Stored) (frame : Name) (bs : List (Var × Term)) (plain : ArePlain nodes (bindings_from path) frame bs) (k : IsKnown nodes (path ++ own_store frame bs ∷ []) (length path + 1)) where
  abbrev ss : List Stored
  ss = path ++ own_store frame bs ∷ []

  abbrev depth : ℕ
  depth = length ss - 1

  depth_is : depth ≡ length path
  depth_is = let l : length ss ≡ length path + 1 = long_last path (own_store frame bs) in omega arith

  inside : drop depth ss ≡ own_store frame bs ∷ []
  inside = drop_last path (own_store frame bs) depth depth_is

  abbrev known : List (Var × Term)
  known = bindings_from (take depth ss)

  abbrev added : List (Var × Term)
  added = bindings_from (drop depth ss)

  abbrev inner : List Name
  inner = frames_from (drop depth ss)

  added_is : added ≡ bs
  added_is = ap bindings_from inside ∙ own_bindings nodes path frame bs plain

  inner_is : inner ≡ frame ∷ []
  inner_is = ap frames_from inside

  takes : Takes nodes known [] added (bindings_from (drop depth ss))
  takes = takes-part nodes ss known added (from-split ss depth) (solved nodes path frame bs plain k)

  form : IsFormOf nodes known (IsTold (environment_at nodes ss depth))
  form = (k.each depth (let e : depth ≡ length path = depth_is in omega arith)).form

  whole : IsFormOf nodes (known ++ added) (IsTold (environment_at nodes ss depth ++ own_at nodes ss depth))
  whole = whole-form nodes ss depth known form added takes

  -- they show no variable from outside
  shown : AreCandidates nodes (known ++ added) inner added []
  shown = record { outside = λ x m. absurd m; each = subst (AllByRecursion Shown) (sym added_is) (all bs plain.own) }
    where
      Shown : (Var × Term) → Type 0
      Shown b = IsOutside inner b.0 → IsAmong b.0 [] × ((y : Var) → IsOutside inner y → end_of nodes (known ++ added) (variable b.0) ≡ variable y → IsAmong y [])

      all : (cs : List (Var × Term)) → AllByRecursion (λ (b : Var × Term). b.0.frame ≡ frame) cs → AllByRecursion Shown cs
      all [] h = tt
      all (c ∷ cs) h = (λ o. absurd (o (subst (λ (fs : List Name). IsLocal fs c.0) (sym inner_is) (inl h.0))), all cs h.1)

  classes : AreClasses nodes known (known ++ added) [] []
  classes = record { member = λ c m. absurd m; root = λ c m. absurd m; end = λ c m. absurd m; covers = λ x r m e. absurd m; distinct = tt }

  pub quiet_plain : KeepsApartAt nodes (path ++ own_store frame bs ∷ []) (length (path ++ own_store frame bs ∷ []) - 1) → IsQuietAt nodes (path ++ own_store frame bs ∷ []) (length (path ++ own_store frame bs ∷ []) - 1)
  quiet_plain apart = quiet-none nodes known (environment_at nodes ss depth) (own_at nodes ss depth) inner form (form-consistent nodes (known ++ added) (IsTold (environment_at nodes ss depth ++ own_at nodes ss depth)) whole)
      (are_touched nodes known (known ++ added) (environment_at nodes ss depth) (environment_at nodes ss depth ++ own_at nodes ss depth) inner form whole (end-extends nodes known added whole.solved) [] [] classes
      (enough nodes known added (IsTold (environment_at nodes ss depth)) (IsTold (environment_at nodes ss depth ++ own_at nodes ss depth)) inner [] form whole (end-extends nodes known added whole.solved)
      (ends-outside nodes known (environment_at nodes ss depth) inner form apart) shown))
