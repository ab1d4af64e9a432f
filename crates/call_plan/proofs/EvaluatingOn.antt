-- Goals of a guard come out one after another.
use Rattle.std.proofs.Common.{◌≡◌, ℕ, ◌+◌, List, [], ◌∷◌, ◌++◌, length, Bool, true, false, refl, sym, ◌∙◌, ap, subst, arith, append_assoc, append-nil}
use Rattle.akl_terms.specs.declared.name.Name.{Name}
use Rattle.akl_terms.specs.declared.term.Node.{Node}
use Rattle.akl_terms.specs.declared.program.Code.{Code}
use Rattle.akl_model.specs.declared.label.Label.{Label}
use Rattle.local_store.specs.Stored.{Stored}
use Rattle.call_plan.specs.declared.guards.Guard.{Guard}
use Rattle.call_plan.specs.Sifted.{name_at, evaluation, Comes, Evaluated, all_hold, one_fails, one_holds}
use Rattle.call_plan.specs.Guarded.{IsGuarded}

module _ (symbols : List (List ℕ)) (nodes : List Node) (ss : List Stored) (frame : Name) (codes : List Code) (old : List Label) where
  -- so many of the goals hold, the last under this name, and these are the rest
  pub record Evaluating (labels : List Label) (goal : Name) (rest : List Code) : Type 0 where
    pub worker : goal.worker ≡ frame.worker
    pub names : goal.number + length rest ≡ frame.number + length codes
    pub done : List Label
    pub labels_are : labels ≡ old ++ done
    pub leads : (ls : List Label) (b : Bool) → Evaluated symbols nodes ss frame (goal.number + 1) rest ls b → Evaluated symbols nodes ss frame (frame.number + 1) codes (done ++ ls) b

  pub begins : Evaluating old frame codes
  begins = record { worker = refl; names = refl; done = []; labels_are = sym (append-nil old); leads = λ ls b h. h }

  module _ (labels : List Label) (goal : Name) where
    more_labels : (p : List Label) (l : Label) → labels ≡ old ++ p → labels ++ l ∷ [] ≡ old ++ (p ++ l ∷ [])
    more_labels p l e = ap (λ (ls : List Label). ls ++ l ∷ []) e ∙ append_assoc old p (l ∷ [])

    pub holds_on : (c : Code) (cs : List Code) → Evaluating labels goal (c ∷ cs) → Comes symbols nodes ss frame true c
        → Evaluating (labels ++ evaluation goal.worker (goal.number + 1) ∷ []) (name_at goal.worker (goal.number + 1)) cs
    holds_on c cs p e = record {
      worker = p.worker;
      names = let n : goal.number + length (c ∷ cs) ≡ frame.number + length codes = p.names in omega arith;
      done = p.done ++ evaluation goal.worker (goal.number + 1) ∷ [];
      labels_are = more_labels p.done (evaluation goal.worker (goal.number + 1)) p.labels_are;
      leads = λ ls b h. subst (λ (ks : List Label). Evaluated symbols nodes ss frame (frame.number + 1) codes ks b) (sym (append_assoc p.done (evaluation goal.worker (goal.number + 1) ∷ []) ls))
          (p.leads (evaluation goal.worker (goal.number + 1) ∷ ls) b
          (subst (λ (w : ℕ). Evaluated symbols nodes ss frame (goal.number + 1) (c ∷ cs) (evaluation w (goal.number + 1) ∷ ls) b) (sym p.worker) (one_holds (goal.number + 1) c cs ls b e h)));
    }

    pub ends_fails : (c : Code) (cs : List Code) → Evaluating labels goal (c ∷ cs) → Comes symbols nodes ss frame false c
        → IsGuarded symbols nodes ss frame (frame.number + 1) codes old (labels ++ evaluation goal.worker (goal.number + 1) ∷ []) Guard.Fails
    ends_fails c cs p e = record {
      evaluations = p.done ++ evaluation goal.worker (goal.number + 1) ∷ [];
      labels = more_labels p.done (evaluation goal.worker (goal.number + 1)) p.labels_are;
      comes = p.leads (evaluation goal.worker (goal.number + 1) ∷ []) false
          (subst (λ (w : ℕ). Evaluated symbols nodes ss frame (goal.number + 1) (c ∷ cs) (evaluation w (goal.number + 1) ∷ []) false) (sym p.worker) (one_fails (goal.number + 1) c cs e));
    }

    pub ends_holds : (rest : List Code) → length rest ≡ 0 → Evaluating labels goal rest → IsGuarded symbols nodes ss frame (frame.number + 1) codes old labels Guard.Holds
    ends_holds [] e p = record {
      evaluations = p.done;
      labels = p.labels_are;
      comes = subst (λ (ks : List Label). Evaluated symbols nodes ss frame (frame.number + 1) codes ks true) (append-nil p.done) (p.leads [] true (all_hold (goal.number + 1)));
    }
    ends_holds (c ∷ cs) e p = absurd (omega arith)

    pub ends_open : (rest : List Code) → Evaluating labels goal rest → IsGuarded symbols nodes ss frame (frame.number + 1) codes old labels Guard.Open
    ends_open rest p = record { evaluations = p.done; labels = p.labels_are; comes = tt }
