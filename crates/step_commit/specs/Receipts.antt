-- What each worker keeps of a journal.
use Rattle.std.specs.Prelude.{◌≡◌, ℕ, suc, ◌+◌, ◌<◌, ◌==◌, List, [], ◌∷◌, map, if◌then◌else◌, ◌⊎◌}
use Rattle.std.specs.List.{AllByRecursion}
use Rattle.akl_model.specs.declared.label.Label.{Label}
use Rattle.akl_model.specs.declared.label.Receipt.{Receipt}

-- a worker's labels in a journal, each with the number of labels up to and with it, behind so many others
abbrev pub labels_of : ℕ → ℕ → List Label → List (ℕ × Label)
labels_of worker before [] = []
labels_of worker before (l ∷ ls) = if l.worker == worker then (suc before, l) ∷ labels_of worker (suc before) ls else labels_of worker (suc before) ls

-- each label was planned by labels before it
abbrev pub ArePlannedBefore : List Receipt → Type 0
ArePlannedBefore = AllByRecursion (λ (r : Receipt). r.seen < r.at)

-- each label was planned by all labels before it, or together with the label before it, whose receipt has these numbers
abbrev pub ArePlannedOn : ℕ → ℕ → List Receipt → Type 0
ArePlannedOn at seen [] = Unit {0}
ArePlannedOn at seen (r ∷ rs) = ((r.at ≡ r.seen + 1) ⊎ ((r.at ≡ at + 1) × (r.seen ≡ seen))) × ArePlannedOn r.at r.seen rs

abbrev pub ArePlannedLast : List Receipt → Type 0
ArePlannedLast = ArePlannedOn 0 0

-- the receipts of labels that were planned together: each label comes behind the one before it
abbrev pub receipts_from : ℕ → ℕ → List Label → List Receipt
receipts_from at seen [] = []
receipts_from at seen (l ∷ ls) = record { at = at; seen = seen; label = l } ∷ receipts_from (at + 1) seen ls

-- a worker's receipts are its labels, each once and in order
pub record AreReceiptsBy (worker : ℕ) (journal : List Label) (rs : List Receipt) : Type 0 where
  pub labels : map (λ r. (r.at, r.label)) rs ≡ labels_of worker 0 journal
  pub planned : ArePlannedBefore rs

-- each list is that of the next worker, from this one on
abbrev pub AreReceipts : ℕ → List Label → List (List Receipt) → Type 0
AreReceipts worker journal [] = Unit {0}
AreReceipts worker journal (rs ∷ more) = AreReceiptsBy worker journal rs × AreReceipts (suc worker) journal more

-- all labels are by this worker
abbrev pub AreBy : ℕ → List Label → Type 0
AreBy worker [] = Unit {0}
AreBy worker (l ∷ ls) = (l.worker ≡ worker) × AreBy worker ls
