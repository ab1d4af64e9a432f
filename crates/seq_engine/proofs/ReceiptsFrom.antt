-- The receipts of labels that one worker planned together.
use Rattle.std.proofs.Common.{◌≡◌, ℕ, suc, ◌+◌, ◌<◌, List, [], ◌∷◌, ◌++◌, length, map, take, get_or, refl, sym, ap, ◌∙◌, inr, arith, eq-eqb, append_assoc}
use Rattle.std.proofs.lemmas.List.{take_more, length-take-le}
use Rattle.akl_model.specs.declared.label.Label.{Label}
use Rattle.akl_model.specs.declared.label.Receipt.{Receipt}
use Rattle.step_commit.specs.Receipts.{labels_of, receipts_from, ArePlannedBefore, ArePlannedOn, AreBy}

-- they are its labels, behind so many others
pub labels_from : (worker before seen : ℕ) (ls : List Label) → AreBy worker ls → map (λ (r : Receipt). (r.at, r.label)) (receipts_from (suc before) seen ls) ≡ labels_of worker before ls
labels_from worker before seen [] are = refl
labels_from worker before seen (l ∷ ls) are =
    rw (eq-eqb _ _ are.0) (ap (λ (xs : List (ℕ × Label)). (suc before, l) ∷ xs) (ap (λ (n : ℕ). map (λ (r : Receipt). (r.at, r.label)) (receipts_from n seen ls)) (let e : suc before + 1 ≡ suc (suc before) = omega arith in e) ∙ labels_from worker (suc before) seen ls are.1))

pub planned_from : (at seen : ℕ) (ls : List Label) → seen < at → ArePlannedBefore (receipts_from at seen ls)
planned_from at seen [] less = tt
planned_from at seen (l ∷ ls) less = (less, planned_from (at + 1) seen ls (omega (arith, less)))

-- each behind the one before it
pub together : (at seen : ℕ) (ls : List Label) → ArePlannedOn at seen (receipts_from (at + 1) seen ls)
together at seen [] = tt
together at seen (l ∷ ls) = (inr (refl, refl), together (at + 1) seen ls)

-- one more comes behind those of other labels
pub from_more : (at seen : ℕ) (ls : List Label) (l : Label) → receipts_from at seen (ls ++ l ∷ []) ≡ receipts_from at seen ls ++ record { at = at + length ls; seen = seen; label = l } ∷ []
from_more at seen [] l = let e : at ≡ at + 0 = omega arith in ap (λ (n : ℕ). record { at = n; seen = seen; label = l } ∷ []) e
from_more at seen (k ∷ ks) l =
    let e : at + 1 + length ks ≡ at + suc (length ks) = omega arith in
    ap (λ (rs : List Receipt). record { at = at; seen = seen; label = k } ∷ rs) (from_more (at + 1) seen ks l ∙ ap (λ (n : ℕ). receipts_from (at + 1) seen ks ++ record { at = n; seen = seen; label = l } ∷ []) e)

-- in a list that goes on
pub pushed_more : (first seen : ℕ) (labels : List Label) (i : ℕ) (d : Label) (all before now : List Receipt) (at : ℕ) → i < length labels → at ≡ first + i → before ≡ all ++ receipts_from first seen (take i labels)
    → now ≡ before ++ record { at = at; seen = seen; label = get_or labels i d } ∷ [] → now ≡ all ++ receipts_from first seen (take (i + 1) labels)
pushed_more first seen labels i d all before now at less number b n =
    let k : Label = get_or labels i d in
    let long : at ≡ first + length (take i labels) = number ∙ ap (λ (m : ℕ). first + m) (sym (length-take-le i labels (omega arith))) in
    n ∙ ap (λ (rs : List Receipt). rs ++ record { at = at; seen = seen; label = k } ∷ []) b
    ∙ append_assoc all (receipts_from first seen (take i labels)) (record { at = at; seen = seen; label = k } ∷ [])
    ∙ ap (λ (m : ℕ). all ++ (receipts_from first seen (take i labels) ++ record { at = m; seen = seen; label = k } ∷ [])) long
    ∙ ap (λ (rs : List Receipt). all ++ rs) (sym (from_more first seen (take i labels) k) ∙ ap (receipts_from first seen) (sym (take_more labels i d less)))
