-- The bytes of a class at the front of a text.
use Rattle.std.proofs.Common.{◌≡◌, ℕ, suc, ◌+◌, ◌≤◌, Bool, true, false, cond, List, [], ◌∷◌, ◌++◌, length, take, refl, arith}
use Rattle.std.specs.List.{prefix_len, list_all}
use Rattle.std.proofs.lemmas.Bool.{and_parts}

run_of : (p : ℕ → Bool) (x : Bool) (b : ℕ) (t : List ℕ) → p b ≡ x → list_all p (take (prefix_len p t) t) ≡ true → list_all p (take (cond x (1 + prefix_len p t) 0) (b ∷ t)) ≡ true
run_of p true b t e h = rw (let z : 1 + prefix_len p t ≡ suc (prefix_len p t) = omega arith in z, e) h
run_of p false b t e h = refl

-- the run is of the class
pub run_all : (p : ℕ → Bool) (t : List ℕ) → list_all p (take (prefix_len p t) t) ≡ true
run_all p [] = refl
run_all p (b ∷ t) = run_of p (p b) b t refl (run_all p t)

pub run_first : (p : ℕ → Bool) (b : ℕ) (t : List ℕ) → p b ≡ true → prefix_len p (b ∷ t) ≡ suc (prefix_len p t)
run_first p b t e = rw e (omega arith)

within_of : (p : ℕ → Bool) (x : Bool) (t : List ℕ) → prefix_len p t ≤ length t → cond x (1 + prefix_len p t) 0 ≤ suc (length t)
within_of p true t h = omega arith
within_of p false t h = omega arith

pub run_within : (p : ℕ → Bool) (t : List ℕ) → prefix_len p t ≤ length t
run_within p [] = omega arith
run_within p (b ∷ t) = within_of p (p b) t (run_within p t)

-- what is all of the class is within the run
pub run_covers : (p : ℕ → Bool) (w rest : List ℕ) → list_all p w ≡ true → length w ≤ prefix_len p (w ++ rest)
run_covers p [] rest e = omega arith
run_covers p (b ∷ w) rest e = let h = and_parts (p b) (list_all p w) e in rw h.0 (omega (arith, run_covers p w rest h.1))
