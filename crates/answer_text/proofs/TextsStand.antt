-- Equations that stand for others give the texts that these give.
use Rattle.std.proofs.Common.{◌≡◌, ℕ, List, [], length, Some, refl}
use Rattle.akl_terms.specs.Tree.{Tree, Trees, symbol, none, more, list_of, Head, head_of, symbol_head}
use Rattle.akl_terms.specs.Equal.{Equations, Equal, IsTold, same, IsConsistent}
use Rattle.akl_terms.specs.Standing.{StandFor}
use Rattle.akl_terms.proofs.StandingLaws.{StandFor-back}
use Rattle.constraint_laws.proofs.Grown.{Headed}
use Rattle.constraint_laws.proofs.SameTrees.{equal_same, headed_to}
use Rattle.answer_text.specs.Printed.{IsFree, GoesOn, IsOtherTail}
use Rattle.answer_text.specs.Cyclic.{SameTree}
use Rattle.answer_text.specs.Laws.{TextsStandLaw, LongTextsStandLaw}
use Rattle.answer_text.proofs.Respects.{AlikeTrees, Counterpart, Corresponds, IsSymbol, symbol_by, lines-there}
use Rattle.answer_text.proofs.SameTrees.{Same-turned, Same-joined, Same-free, Down, Same-down}

-- related arguments go on as a list alike
goes_on-alike : (symbols : List (List ℕ)) (R : Tree → Tree → Type 0) (f : ℕ) (ts us : Trees) → AlikeTrees R ts us → GoesOn symbols f ts → GoesOn symbols f us
goes_on-alike symbols R f none none a g = g
goes_on-alike symbols R f none (more u us) a g = absurd a
goes_on-alike symbols R f (more t none) us a g = absurd g
goes_on-alike symbols R f (more t (more v none)) none a g = absurd a
goes_on-alike symbols R f (more t (more v none)) (more u none) a g = absurd a.1
goes_on-alike symbols R f (more t (more v none)) (more u (more w none)) a g = g
goes_on-alike symbols R f (more t (more v none)) (more u (more w (more x xs))) a g = absurd a.1.1
goes_on-alike symbols R f (more t (more v (more x xs))) us a g = absurd g

-- terms that are the same tree under the second equations correspond
module _ (symbols : List (List ℕ)) (E F : Equations) (w : StandFor (IsTold E) (IsTold F)) (c : IsConsistent E) where
  equal-there : (s t : Tree) → Equal E s t → SameTree F s t
  equal-there s t e = w.same_to c s t (λ n. equal_same E n s t e)

  equal-here : (s t : Tree) → Equal F s t → SameTree F s t
  equal-here s t e n = equal_same F n s t e

  pub headed-there : (s t u : Tree) (h : Head) → SameTree F s t → Equal E s u → head_of u ≡ Some h → Counterpart F (SameTree F) u t h
  headed-there s t u h m e i =
      let d : Down F (w.to c) u t u h = Same-down F (w.to c) (Same-joined F (w.to c) (Same-turned F (w.to c) (equal-there s u e)) m) same i in
      record { other = d.other; equal = d.equal; head = d.head; each = d.each }

  free-there : (s t : Tree) → SameTree F s t → IsFree E s → IsFree F t
  free-there s t m f = record {
    free = λ u h e i.
        let d : Down F (w.to c) t s u h = Same-down F (w.to c) (Same-turned F (w.to c) m) e i in
        let q : Headed E s = headed_to F E (λ a b n. w.same_back c a b n) s (d.other, h, d.equal, d.head) in
        f.free q.0 q.1 q.2 q.3;
  }

  other-there : (s t : Tree) → SameTree F s t → IsOtherTail symbols E s → IsOtherTail symbols F t
  other-there s t m o = record {
    other = λ f ts e g.
        let n : SameTree E s (symbol f ts) = w.same_back c s (symbol f ts) (Same-joined F (w.to c) m (equal-here t (symbol f ts) e)) in
        let d : Down E c (symbol f ts) s (symbol f ts) (symbol_head f (length (list_of ts))) = Same-down E c (Same-turned E c n) same refl in
        let p : IsSymbol E (SameTree E) s f ts = symbol_by E (SameTree E) s f ts d.other d.equal d.head d.each in
        o.other f p.arguments p.equal (goes_on-alike symbols (SameTree E) f ts p.arguments p.alike g);
  }

  pub stands-correspond : Corresponds symbols E F (SameTree F)
  stands-correspond = record {
    itself = λ t. equal-here t t same;
    headed = headed-there;
    free = free-there;
    other = other-there;
    from = λ s t x m e. Same-joined F (w.to c) (Same-turned F (w.to c) (equal-there s x e)) m;
    to = λ s t x y f m n e. Same-free F (w.to c) (Same-joined F (w.to c) (Same-turned F (w.to c) m) (Same-joined F (w.to c) (equal-there s x e) n)) (free-there s t m f);
    back = λ s t x y f m n e. Same-free E c (w.same_back c s x (Same-joined F (w.to c) m (Same-joined F (w.to c) (equal-here t y e) (Same-turned F (w.to c) n)))) f;
  }

pub texts_stand : TextsStandLaw
texts_stand symbols E F w c lines text p = lines-there symbols E F (SameTree F) (stands-correspond symbols E F w c) [] [] lines text p tt

pub long_texts_stand : LongTextsStandLaw
long_texts_stand symbols E F w c lines l text p = l text (texts_stand symbols F E (StandFor-back w) (w.to c) lines text p)
