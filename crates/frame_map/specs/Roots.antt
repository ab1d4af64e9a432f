-- The trees of workers, as one list of names with their values.
use Rattle.std.specs.Prelude.{◌≡◌, ℕ, suc, ◌+◌, ◌^◌, ◌≤◌, ltb, true, List, [], ◌∷◌, map, Option, None, Some, if◌then◌else◌}
use lib.Dec.{eqb}
use Rattle.akl_terms.specs.declared.name.Name.{Name}
use Rattle.name_map.specs.Pages.{listed}
use Rattle.frame_map.specs.declared.root.Root.{Root}
use Rattle.frame_map.specs.Contents.{Contents, contents}

-- the numbers of one worker, of at most so many binary digits
pub record OfWorker (V : Type 0) : Type 0 where
  pub worker : ℕ
  pub width : ℕ
  pub contents : Contents V

pub record IsRoot {V : Type 0} (r : OfWorker V) : Type 0 where
  pub most : r.width ≤ 64
  pub fits : r.contents.fits r.width ≡ true

module _ {V : Type 0} where
  abbrev pub of_root : Root V → OfWorker V
  of_root r = record { worker = r.worker; width = r.width; contents = contents r.tree }

  abbrev pub all_roots : List (Root V) → List (OfWorker V)
  all_roots roots = map of_root roots

  abbrev pub worker_of : OfWorker V → Option ℕ
  worker_of r = Some r.worker

  -- the workers come in increasing order, from one on
  abbrev pub AreRootsFrom : ℕ → List (OfWorker V) → Type 0
  AreRootsFrom w [] = Unit {0}
  AreRootsFrom w (r ∷ rest) = (w ≤ r.worker) × IsRoot r × AreRootsFrom (r.worker + 1) rest

  abbrev pub AreRoots : List (OfWorker V) → Type 0
  AreRoots roots = AreRootsFrom 0 roots

  -- how many roots at the front are of workers below this one
  abbrev pub place_of : ℕ → List (OfWorker V) → ℕ
  place_of w [] = 0
  place_of w (r ∷ rest) = if ltb r.worker w then suc (place_of w rest) else 0

  abbrev pub value_at : List (OfWorker V) → Name → Option V
  value_at [] m = None
  value_at (r ∷ rest) m = if eqb m.worker r.worker then r.contents.value m.number else value_at rest m

  -- the names with their values, in order
  abbrev pub entries : List (OfWorker V) → List (Name × V)
  entries [] = []
  entries (r ∷ rest) = listed r.worker 0 (2 ^ r.width) r.contents.value (entries rest)
