-- What a turn keeps of a worker.
use Rattle.std.proofs.Common.{◌≡◌, ℕ, ◌≤◌, List, Option, Some, None, IfSome, sym, ap, ◌∙◌, subst}
use Rattle.turn_lock.specs.Histories.{GoesOnWithout}
use Rattle.turn_lock.specs.declared.view.View.{View}
use Rattle.akl_model.specs.declared.label.Receipt.{Receipt}
use Rattle.akl_terms.specs.declared.program.Program.{Program}
use Rattle.box_tree.specs.Tables.{TableValue}
use Rattle.box_tree.specs.Views.{ViewValue}
use Rattle.step_commit.specs.Cores.{CoreValue}
use Rattle.place_steps.specs.declared.next.Next.{Next}
use Rattle.par_workers.specs.declared.made.Made.{Made}
use Rattle.par_workers.specs.declared.choosing.Chosen.{Chosen}
use Rattle.par_workers.specs.declared.concluding.Planned.{Planned}
use Rattle.par_workers.specs.Shared.{SharedValue, maker, AreReceiptsOf}
use Rattle.par_workers.specs.Turns.{run_seen, IsTakenOf, IsChosenIn, IsFoundIn, IsFoundBefore, IsNumber}
use Rattle.par_workers.proofs.Labels.{receipts_kept}

-- the pass takes the history of a turn, and gives back what it has become
module _ (number : ℕ) (v w x : View CoreValue Made) (past after : List Made) (taken : w ≡ record v { seen = past }) (given : x ≡ record w { seen = after }) (is : IsNumber number v) where
  same_fixed : x.fixed ≡ v.fixed
  same_fixed = ap (λ (u : View CoreValue Made). u.fixed) given ∙ ap (λ (u : View CoreValue Made). u.fixed) taken

  pub number-turn : IsNumber number x
  number-turn =
      let n : x.number ≡ v.number = ap (λ (u : View CoreValue Made). u.number) given ∙ ap (λ (u : View CoreValue Made). u.number) taken in
      (n ∙ is.0, is.1, subst (λ (c : CoreValue). number ≤ c.workers) (sym same_fixed) is.2)

  pub exact-turn : (rs ss : List Receipt) → GoesOnWithout maker v.number v.seen past → (AreReceiptsOf number past rs → AreReceiptsOf number after ss)
      → AreReceiptsOf number v.seen rs → AreReceiptsOf number x.seen ss
  exact-turn rs ss goes does are =
      subst (λ (ms : List Made). AreReceiptsOf number ms ss) (sym (ap (λ (u : View CoreValue Made). u.seen) given))
      (does (receipts_kept number v.seen past rs (subst (λ n. GoesOnWithout maker n v.seen past) is.0 goes) are))

-- what a worker found between two turns
found_before : (number : ℕ) (v : View CoreValue Made) (s : SharedValue) (n : Next) → s.begun ≡ v.fixed → v.number ≡ number → GoesOnWithout maker v.number v.seen s.past
    → IsFoundIn (run_seen v) number n → IsFoundBefore s number n
found_before number v s n begun is goes found = record {
  seen = v.seen;
  goes = subst (λ k. GoesOnWithout maker k v.seen s.past) is goes;
  found = subst (λ (c : CoreValue). IsFoundIn (record { begun = c; past = v.seen }) number n) (sym begun) found;
}

-- a place that was chosen in a turn
pub chosen_seen : (number : ℕ) (w x : View CoreValue Made) (s : SharedValue) (c : Chosen) → x ≡ record w { seen = s.past } → s.begun ≡ w.fixed → IsChosenIn s number c → IsChosenIn (run_seen x) number c
chosen_seen number w x s c given begun chosen =
    subst (λ (u : View CoreValue Made). IsChosenIn (run_seen u) number c) (sym given) (subst (λ (b : CoreValue). IsChosenIn (record { begun = b; past = s.past }) number c) begun chosen)

-- a view has the program of its run
pub program_seen : (s : SharedValue) (number : ℕ) (v : ViewValue) (p : Program) → IsTakenOf s number v → p ≡ s.begun.table.program → p ≡ v.table.program
program_seen s number v p taken is = is ∙ sym (ap (λ (t : TableValue). t.program) taken.table ∙ taken.fixed.program)

pub some_found_before : (number : ℕ) (v : View CoreValue Made) (s : SharedValue) (o : Option Planned) → s.begun ≡ v.fixed → v.number ≡ number → GoesOnWithout maker v.number v.seen s.past
    → IfSome o (λ p. IfSome p.next (IsFoundIn (run_seen v) number)) → IfSome o (λ p. IfSome p.next (IsFoundBefore s number))
some_found_before number v s None begun is goes found = tt
some_found_before number v s (Some p) begun is goes found = of_next p.next found
  where
    of_next : (o : Option Next) → IfSome o (IsFoundIn (run_seen v) number) → IfSome o (IsFoundBefore s number)
    of_next None found = tt
    of_next (Some n) found = found_before number v s n begun is goes found
