-- What a loop over the values of a vector has yielded.
use Rattle.std.proofs.Common.{◌≡◌, ℕ, ◌+◌, ◌<◌, ◌≤◌, List, [], ◌∷◌, length, map, take, get_or, Option, Some, None, refl, sym, ap, subst, ◌∙◌, Vec, vec_len, Global}
use Rattle.std.specs.Prelude.{All}
use Rattle.std.proofs.lemmas.Iterator.{YieldsList}
use Rattle.std.specs.Iterator.{Yields}
use Rattle.std.specs.Vec.Iter.{into_iter_items, into_iter_len, into_iter_steps}
use Rattle.std.specs.declared.vec.IntoIter.{IntoIter}
use Rattle.std.proofs.lemmas.Iterator.Adapters.{YieldsList-from_vec}
use Rattle.std.proofs.lemmas.Iterator.Consumers.{YieldsList-turn, YieldsList-end, YieldsList-so_far}
use Rattle.clause_store.proofs.Sums.{IsSum, next_taken, mapped_all}

unchanged : {A : Type 0} (xs : List A) → map (λ x. x) xs ≡ xs
unchanged {A} [] = refl
unchanged {A} (x ∷ xs) = ap (λ (z : List A). x ∷ z) (unchanged xs)

-- the values so far are the first, and this is the next
pub record IsNext {A : Type 0} (all so_far : List A) (x : A) : Type 0 where
  pub before : so_far ≡ take (length so_far) all
  pub within : length so_far < length all
  pub is : x ≡ get_or all (length so_far) x

module _ {A : Type 0} (v : Vec A Global) (it : IntoIter A Global) (rest : into_iter_items it ≡ v.items) (len : into_iter_len it ≡ vec_len v) (so_far : List A) (t : IntoIter A Global) (y : Yields into_iter_steps it so_far t) where
  road : YieldsList (into_iter_steps {X = A} {Z = Global}) (λ x. x) it v.items
  road = YieldsList-from_vec {s = it} v.items rest (len ∙ v.ok.0)

  pub is_next : (r : Option A) (u : IntoIter A Global) (x : A) → r ≡ Some x → into_iter_steps t r u → IsNext v.items so_far x
  is_next r u x e f =
      let turn = YieldsList-turn road so_far t y r u x e f in
      record { before = sym (unchanged so_far) ∙ YieldsList-so_far road so_far t y; within = turn.0; is = turn.1 }

  pub were_all : (r : Option A) (u : IntoIter A Global) → r ≡ None → into_iter_steps t r u → so_far ≡ v.items
  were_all r u e f = sym (unchanged so_far) ∙ (YieldsList-end road so_far t y r u e f).0

-- their sizes are no more than all
pub next_size : {A B : Type 0} {f : B → ℕ} {F : List B → ℕ} → IsSum f F → (g : A → B) {all so_far : List A} {x : A} → IsNext all so_far x → F (map g so_far) + f (g x) ≤ F (map g all)
next_size {A} {f = f} {F = F} s g {all} {so_far} {x} h = subst (λ (z : List A). F (map g z) + f (g x) ≤ F (map g all)) (sym h.before) (next_taken s g all (length so_far) x h.within h.is)

pub next_all : {A B : Type 0} (P : B → Type 0) (g : A → B) {all so_far : List A} {x : A} → IsNext all so_far x → All P (map g all) → P (g x)
next_all P g {all} {so_far} {x} h = mapped_all P g all (length so_far) x h.within h.is
