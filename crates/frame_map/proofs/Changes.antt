-- Changes of contents that are known by others, and copies of lists.
use Rattle.std.proofs.Common.{◌≡◌, ◌⊎◌, ℕ, List, [], ◌∷◌, Option, Some, None, Result, Ok, Err, OnErr, inl, inr, refl, ap, subst, ◌∙◌, Vec, Global, vec_len}
use Rattle.std.proofs.lemmas.List.Elements.{same_from_all_zip}
use Rattle.std.specs.Prelude.{if◌then◌else◌}
use Rattle.std.specs.List.{AllZip}
use Rattle.frame_map.specs.declared.tree.Tree.{Tree}
use Rattle.frame_map.specs.Contents.{Contents, contents, all_contents, Same, Puts, PutsMade}
use lib.Dec.{eqb}

module _ {V : Type 0} where
  module _ (old begun c0 c1 new : Contents V) (same : Same old begun) (before : c0 ≡ begun) (after : new ≡ c1) where
    pub puts_by : (k : ℕ) (o : Option V) → Puts c0 c1 k o → Puts old new k o
    puts_by k o put n = ap (λ (c : Contents V). c.value n) after ∙ put n ∙ ap (λ (p : Option V). if eqb n k then o else p) (ap (λ (c : Contents V). c.value n) before ∙ same n)

    pub same_by : Same c0 c1 → Same old new
    same_by kept n = ap (λ (c : Contents V). c.value n) after ∙ kept n ∙ ap (λ (c : Contents V). c.value n) before ∙ same n

  -- what is made of a value that was the same before
  pub made_after : (makes : Option V → V → Type 0) (old begun new : Contents V) → Same old begun → (k : ℕ) → PutsMade makes begun new k → PutsMade makes old new k
  made_after makes old begun new same k h = record {
    value = h.value;
    puts = λ n. h.puts n ∙ ap (λ (p : Option V). if eqb n k then Some h.value else p) (same n);
    made = subst (λ (o : Option V). makes o h.value) (same k) h.made;
  }

  all_cloned : (ts us : List (Tree V)) → AllZip (λ (t u : Tree V). contents u ≡ contents t) ts us → all_contents us ≡ all_contents ts
  all_cloned [] [] h = refl
  all_cloned [] (u ∷ us) h = absurd h
  all_cloned (t ∷ ts) [] h = absurd h
  all_cloned (t ∷ ts) (u ∷ us) h = λ i. h.0 i ∷ all_cloned ts us h.1 i

  -- children that are the old ones, or clones of these
  pub children_owned : (w v : Vec (Tree V) Global) → (v ≡ w) ⊎ (AllZip (λ (t u : Tree V). contents u ≡ contents t) w.items v.items × (vec_len v ≡ vec_len w)) → all_contents v.items ≡ all_contents w.items
  children_owned w v (inl same) = ap (λ (u : Vec (Tree V) Global). all_contents u.items) same
  children_owned w v (inr cloned) = all_cloned w.items v.items cloned.0

  module _ (C : V → V → Type 0) (R : Option V → Option V → Type 0) (both : (x y : V) → R (Some x) (Some y) → C x y) (left : (x : V) → R (Some x) None → ⊥) (right : (y : V) → R None (Some y) → ⊥) (equal : (x y : V) → C x y → y ≡ x) where
    slot_cloned : (x y : Option V) → R x y → y ≡ x
    slot_cloned None None h = refl
    slot_cloned None (Some y) h = absurd (right y h)
    slot_cloned (Some x) None h = absurd (left x h)
    slot_cloned (Some x) (Some y) h = ap Some (equal x y (both x y h))

    -- the same of slots
    pub slots_owned : (w v : Vec (Option V) Global) → (v ≡ w) ⊎ (AllZip R w.items v.items × (vec_len v ≡ vec_len w)) → v.items ≡ w.items
    slots_owned w v (inl same) = ap (λ (u : Vec (Option V) Global). u.items) same
    slots_owned w v (inr cloned) = same_from_all_zip R w.items v.items cloned.0 slot_cloned

-- what a result says, where it is known to be an error
pub on_err : {A E : Type 0} {P : Type 0} (r : Result A E) (e : E) → r ≡ Err e → OnErr r P → P
on_err (Ok x) e is p = absurd (cc)
on_err (Err d) e is p = p
