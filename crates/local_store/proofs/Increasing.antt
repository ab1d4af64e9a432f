-- Bindings of one frame whose indices increase strictly.
use Rattle.std.proofs.Common.{◌≡◌, ℕ, zero, suc, ◌+◌, ◌-◌, ◌<◌, ◌≤◌, List, [], ◌∷◌, ◌++◌, length, take, add-one, Bool, true, false, if◌then◌else◌, refl, sym, ap, subst, ◌∙◌, slice_index_or, append_assoc, arith}
use Rattle.std.specs.Prelude.{nat_lt, not, map}
use Rattle.std.proofs.lemmas.Bool.Decides.{nat_tests}
use Rattle.std.proofs.lemmas.List.{take_more}
use Rattle.akl_terms.specs.declared.name.Var.{Var}
use Rattle.akl_terms.specs.declared.term.Term.{Term}
use Rattle.local_store.specs.Kept.{put_all, place_at, Increase}
use Rattle.local_store.proofs.Places.{put-last}

-- the bindings by their indices
abbrev pub by_index : List (Var × Term) → List (ℕ × Term)
by_index cs = map (λ b. (b.0.index, b.1)) cs

pub increase-first : (cs : List (Var × Term)) → Increase (take 1 cs)
increase-first [] = tt
increase-first (c ∷ cs) = tt

pub increase-next : (cs : List (Var × Term)) (at : ℕ) (d e : Var × Term) → 0 < at → at < length cs → (slice_index_or cs (at - 1) d).0.index < (slice_index_or cs at e).0.index → Increase (take at cs)
    → Increase (take (at + 1) cs)
increase-next cs zero d e some h l f = absurd (omega arith)
increase-next cs (suc i) d e some h l f = let w : suc i - 1 ≡ i = omega arith in rw add-one (on cs i h (rw w at l) f)
  where
    on : (cs : List (Var × Term)) (i : ℕ) → suc i < length cs → (slice_index_or cs i d).0.index < (slice_index_or cs (suc i) e).0.index → Increase (take (suc i) cs) → Increase (take (suc (suc i)) cs)
    on [] i h l f = absurd (omega arith)
    on (b ∷ []) i h l f = absurd (omega arith)
    on (b ∷ c ∷ cs) zero h l f = (l, tt)
    on (b ∷ c ∷ cs) (suc i) h l f = (f.0, on (c ∷ cs) i (omega arith) l f.1)

pub increase-all : (cs : List (Var × Term)) (i : ℕ) → length cs ≤ i → Increase (take i cs) → Increase cs
increase-all cs i h f = subst Increase (beyond cs i h) f
  where
    beyond : (cs : List (Var × Term)) (i : ℕ) → length cs ≤ i → take i cs ≡ cs
    beyond [] zero h = refl
    beyond [] (suc i) h = refl
    beyond (c ∷ cs) zero h = absurd (omega arith)
    beyond (c ∷ cs) (suc i) h = ap (λ (l : List (Var × Term)). c ∷ l) (beyond cs i (omega arith))

-- one of a later index comes behind all
place-more : (bs : List (ℕ × Term)) (i j : ℕ) (t : Term) → place_at bs i ≡ length bs → i < j → place_at (bs ++ (i, t) ∷ []) j ≡ length (bs ++ (i, t) ∷ [])
place-more [] i j t e l = let n : nat_lt j i ≡ false = grind (arith, nat_tests) in rw n refl
place-more (b ∷ bs) i j t e l = on (nat_lt i b.0) refl e (place-more bs i j t)
  where
    on : (k : Bool) → nat_lt i b.0 ≡ k → (if not k then suc (place_at bs i) else 0) ≡ suc (length bs) → (place_at bs i ≡ length bs → i < j → place_at (bs ++ (i, t) ∷ []) j ≡ length (bs ++ (i, t) ∷ []))
        → place_at (b ∷ bs ++ (i, t) ∷ []) j ≡ length (b ∷ bs ++ (i, t) ∷ [])
    on true q e f = absurd (omega (arith, e))
    on false q e f = let n : nat_lt j b.0 ≡ false = grind (arith, nat_tests) in rw n (ap suc (f (omega (arith, e)) l))

put-behind : (bs : List (ℕ × Term)) (c : Var × Term) (cs : List (Var × Term)) → place_at bs c.0.index ≡ length bs → Increase (c ∷ cs) → put_all bs (c ∷ cs) ≡ bs ++ by_index (c ∷ cs)
put-behind bs c [] e h = sym (put-last bs c.0.index c.1 e)
put-behind bs c (d ∷ cs) e h =
    ap (λ (l : List (ℕ × Term)). put_all l (d ∷ cs)) (sym (put-last bs c.0.index c.1 e))
    ∙ put-behind (bs ++ (c.0.index, c.1) ∷ []) d cs (place-more bs c.0.index d.0.index c.1 e h.0) h.1
    ∙ append_assoc bs ((c.0.index, c.1) ∷ []) (by_index (d ∷ cs))

-- they come to stand as they are
pub put-increase : (cs : List (Var × Term)) → Increase cs → by_index cs ≡ put_all [] cs
put-increase [] h = refl
put-increase (c ∷ cs) h = sym (put-behind [] c cs refl h)

by_index-push : (cs : List (Var × Term)) (c : Var × Term) → by_index (cs ++ c ∷ []) ≡ by_index cs ++ (c.0.index, c.1) ∷ []
by_index-push [] c = refl
by_index-push (d ∷ cs) c = ap (λ (l : List (ℕ × Term)). (d.0.index, d.1) ∷ l) (by_index-push cs c)

pub by_index-next : (old list new : List (ℕ × Term)) (cs : List (Var × Term)) (i : ℕ) (d : Var × Term) → i < length cs → list ≡ old ++ by_index (take i cs)
    → new ≡ list ++ ((slice_index_or cs i d).0.index, (slice_index_or cs i d).1) ∷ [] → new ≡ old ++ by_index (take (i + 1) cs)
by_index-next old list new cs i d h e n = n ∙ ap (λ (l : List (ℕ × Term)). l ++ ((slice_index_or cs i d).0.index, (slice_index_or cs i d).1) ∷ []) e
    ∙ append_assoc old (by_index (take i cs)) (((slice_index_or cs i d).0.index, (slice_index_or cs i d).1) ∷ [])
    ∙ ap (λ (l : List (ℕ × Term)). old ++ l) (sym (by_index-push (take i cs) (slice_index_or cs i d)) ∙ ap by_index (sym (take_more cs i d h)))
