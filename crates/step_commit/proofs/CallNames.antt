-- The goals that are left of a call's body have names that stand nowhere, behind those that its alternatives draw.
use Rattle.std.proofs.Common.{◌≡◌, ℕ, ◌+◌, ◌≤◌, ◌<◌, List, length, map, ap, ◌⊎◌, inl, inr, arith}
use Rattle.std.specs.Prelude.{slice_index}
use Rattle.akl_terms.specs.declared.name.Name.{Name}
use Rattle.akl_terms.specs.declared.program.Program.{Program}
use Rattle.akl_model.specs.declared.label.Label.{Label}
use Rattle.akl_model.specs.Config.{IsIn, Atom, Content, Config}
use Rattle.akl_model.specs.Names.{times_in}
use Rattle.akl_model.specs.Ordered.{IsBeforeAll, IsIncreasing}
use Rattle.akl_model.proofs.Finds.{zero_or, times}
use Rattle.akl_model.proofs.Drawn.{drawn_times, drawn_place, drawn_once}
use Rattle.akl_model.proofs.NamesKept.{Stand}
use Rattle.akl_model.proofs.ScopesAlong.{counted_in}
use Rattle.plan_laws.specs.AtOnce.{Tells, finishes, leaves, tells, holds}
use Rattle.table_laws.specs.Rows.{Table}
use Rattle.table_laws.specs.Unfolds.{Unfolds}
use Rattle.table_laws.specs.Writes.{IsFresh}
use Rattle.table_laws.proofs.Fresh.{no_row_box, no_row_goal}
use Rattle.table_laws.proofs.NewGoals.{number_before}

-- names that a worker may draw from a later number on stand nowhere
later_nowhere : (c : Config) (w n k : ℕ) (m : Name) → Stand c → slice_index c.next w ≤ n → 1 ≤ drawn_times m w n k → times m c.roots ≡ 0
later_nowhere c w n k m s later h = on (zero_or (times m c.roots))
  where
    on : (times m c.roots ≡ 0) ⊎ (0 < times m c.roots) → times m c.roots ≡ 0
    on (inl z) = z
    on (inr y) =
        let a : m.number < slice_index c.next m.worker = s.below m y in
        let v : (m.worker ≡ w) × (n ≤ m.number) × (m.number < n + k) = drawn_place m w n k (omega arith) in
        let e : slice_index c.next m.worker ≡ slice_index c.next w = ap (slice_index c.next) v.0 in
        let b : n ≤ m.number = v.1 in
        absurd (omega (arith, a, e, b, later))

abbrev names_in : List (Name × Atom) → List Name
names_in xs = map (λ (x : Name × Atom). x.0) xs

-- of the names of a body's goals some are left, in order
module _ (p : Program) (w next : ℕ) (around : List Content) where
  left_before : (m : ℕ) (b : Content) (n : ℕ) (body : List Atom) (ls : List Label) (b2 : Content) (left : List (Name × Atom)) → m < n → Tells p w next around b n body ls b2 left
      → IsBeforeAll (record { worker = w; number = m }) (names_in left)
  left_before m _ _ _ _ _ _ h (finishes b n) = tt
  left_before m _ _ _ _ _ _ h (leaves b n a rest ls b2 left y) = (number_before w m n h, left_before m b (n + 1) rest ls b2 left (omega arith) y)
  left_before m _ _ _ _ _ _ h (tells r b n a s t rest ls b2 left guard makes y) = left_before m _ (n + 1) rest ls b2 left (omega arith) y
  left_before m _ _ _ _ _ _ h (holds r b n a rest ls b2 left guard makes y) = left_before m b (n + 1) rest ls b2 left (omega arith) y

  pub left_increase : (b : Content) (n : ℕ) (body : List Atom) (ls : List Label) (b2 : Content) (left : List (Name × Atom)) → Tells p w next around b n body ls b2 left → IsIncreasing (names_in left)
  left_increase _ _ _ _ _ _ (finishes b n) = tt
  left_increase _ _ _ _ _ _ (leaves b n a rest ls b2 left y) = (left_before n b (n + 1) rest ls b2 left (omega arith) y, left_increase b (n + 1) rest ls b2 left y)
  left_increase _ _ _ _ _ _ (tells r b n a s t rest ls b2 left guard makes y) = left_increase _ (n + 1) rest ls b2 left y
  left_increase _ _ _ _ _ _ (holds r b n a rest ls b2 left guard makes y) = left_increase b (n + 1) rest ls b2 left y

  left_drawn : (m : Name) (b : Content) (n : ℕ) (body : List Atom) (ls : List Label) (b2 : Content) (left : List (Name × Atom)) → Tells p w next around b n body ls b2 left
      → times_in m (names_in left) ≤ drawn_times m w n (length body)
  left_drawn m _ _ _ _ _ _ (finishes b n) = omega arith
  left_drawn m _ _ _ _ _ _ (leaves b n a rest ls b2 left y) = let h : times_in m (names_in left) ≤ drawn_times m w (n + 1) (length rest) = left_drawn m b (n + 1) rest ls b2 left y in omega (arith, h)
  left_drawn m _ _ _ _ _ _ (tells r b n a s t rest ls b2 left guard makes y) = let h : times_in m (names_in left) ≤ drawn_times m w (n + 1) (length rest) = left_drawn m _ (n + 1) rest ls b2 left y in omega (arith, h)
  left_drawn m _ _ _ _ _ _ (holds r b n a rest ls b2 left guard makes y) = let h : times_in m (names_in left) ≤ drawn_times m w (n + 1) (length rest) = left_drawn m b (n + 1) rest ls b2 left y in omega (arith, h)

  pub left_fresh : (T : Table) (c : Config) (u : Unfolds T c) (s : Stand c) (b : Content) (n : ℕ) (body : List Atom) (ls : List Label) (b2 : Content) (left : List (Name × Atom)) → slice_index c.next w ≤ n
      → Tells p w next around b n body ls b2 left → IsFresh T (names_in left)
  left_fresh T c u s b n body ls b2 left later y = record {
    once = λ m. let o : drawn_times m w n (length body) ≤ 1 = drawn_once m w n (length body) in let e : times_in m (names_in left) ≤ drawn_times m w n (length body) = left_drawn m b n body ls b2 left y in omega (arith, o, e);
    no_box = λ m i. no_row_box T c m u (nowhere m i);
    no_goal = λ m i. no_row_goal T c m u (nowhere m i);
  }
    where
      nowhere : (m : Name) → IsIn m (names_in left) → times m c.roots ≡ 0
      nowhere m i =
          let h : 1 ≤ times_in m (names_in left) = counted_in m (names_in left) i in
          let e : times_in m (names_in left) ≤ drawn_times m w n (length body) = left_drawn m b n body ls b2 left y in
          later_nowhere c w n (length body) m s later (omega (arith, h, e))
