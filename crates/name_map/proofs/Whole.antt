-- What a change of one place makes of the entries.
use Rattle.std.proofs.Common.{◌≡◌, ℕ, ◌<◌, Bool, true, false, List, length, get_or, set, Option, Some, None, refl, sym, ap, ◌∙◌, arith}
use Rattle.std.proofs.lemmas.Bool.Decides.{nat_tests}
use Rattle.std.specs.Prelude.{◌&&◌, if◌then◌else◌}
use Rattle.akl_terms.specs.declared.name.Name.{Name}
use Rattle.akl_terms.specs.Names.{same_name}
use Rattle.akl_terms.proofs.SameNames.{same_name-equal}
use Rattle.name_map.specs.declared.numbers.Numbers.{Numbers}
use Rattle.name_map.specs.Entries.{Finds, IsPut, IsTakenOut}
use Rattle.name_map.specs.Pages.{in_numbers, value_at, entries, Same, Puts}
use Rattle.name_map.proofs.Found.{found, ordered}
use Rattle.name_map.proofs.SameEntries.{same_from_finds, put_from_finds, taken_from_finds}
use Rattle.name_map.proofs.Within.{within_set, within_kept}
use lib.Dec.{eqb}

both_same : (m k : Name) → (eqb m.worker k.worker && eqb m.number k.number) ≡ same_name m k
both_same m k = grind (arith, nat_tests)

module _ {V : Type 0} where
  -- every name has the value that it had
  abbrev pub SameValues : List (Numbers V) → List (Numbers V) → Type 0
  SameValues old new = (m : Name) → value_at new m ≡ value_at old m

  pub entries_same : (old new : List (Numbers V)) → SameValues old new → entries new ≡ entries old
  entries_same old new same = same_from_finds (entries new) (entries old) (ordered new) (ordered old) (λ m. found new m ∙ same m ∙ sym (found old m))

  -- one worker's numbers change, and no value does
  pub worker_kept : (old : List (Numbers V)) (i : ℕ) (x y : Numbers V) → i < length old → ((d : Numbers V) → x ≡ get_or old i d) → Same x y → SameValues old (set old i y)
  worker_kept old i x y h is same m = within_kept (in_numbers m.number) old i m.worker x y h is (same m.number)

  -- one worker's numbers change at one number
  pub worker_put : (old : List (Numbers V)) (k : Name) (i : ℕ) (x y : Numbers V) (w : Option V) → i ≡ k.worker → i < length old → ((d : Numbers V) → x ≡ get_or old i d) → Puts x y k.number w
      → (m : Name) → value_at (set old i y) m ≡ (if same_name m k then w else value_at old m)
  worker_put old k i x y w worker_is h is put m =
      within_set (in_numbers m.number) old i m.worker x y (eqb m.number k.number) w h is (put m.number)
      ∙ (λ j. if (eqb m.worker (worker_is j) && eqb m.number k.number) then w else value_at old m) ∙ ap (λ (t : Bool). if t then w else value_at old m) (both_same m k)

  finds_from : (old new : List (Numbers V)) (k : Name) (w : Option V) → ((m : Name) → value_at new m ≡ (if same_name m k then w else value_at old m)) → Finds (entries old) (entries new) k w
  finds_from old new k w put m = found new m ∙ put m ∙ ap (λ (o : Option V). if same_name m k then w else o) (sym (found old m))

  pub entries_put : (old new : List (Numbers V)) (k : Name) (v : V) → ((m : Name) → value_at new m ≡ (if same_name m k then Some v else value_at old m)) → IsPut (entries old) (entries new) k v
  entries_put old new k v put = put_from_finds (entries old) (entries new) k v (ordered old) (ordered new) (finds_from old new k (Some v) put)

  pub entries_taken_out : (old new : List (Numbers V)) (k : Name) → ((m : Name) → value_at new m ≡ (if same_name m k then None else value_at old m)) → IsTakenOut (entries old) (entries new) k
  entries_taken_out old new k put = taken_from_finds (entries old) (entries new) k (ordered old) (ordered new) (finds_from old new k None put)

  -- a name that isn't there is taken out by no change
  pub name_missing : (workers : List (Numbers V)) (k : Name) → value_at workers k ≡ None → (m : Name) → value_at workers m ≡ (if same_name m k then None else value_at workers m)
  name_missing workers k none m = on (same_name m k) refl
    where
      on : (b : Bool) → same_name m k ≡ b → value_at workers m ≡ (if b then None else value_at workers m)
      on true e = ap (value_at workers) (same_name-equal m k e) ∙ none
      on false e = refl
