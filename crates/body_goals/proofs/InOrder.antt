-- Goals of a body are reduced one after another.
use Rattle.std.proofs.Common.{◌≡◌, ℕ, ◌+◌, ◌<◌, ◌≤◌, List, [], ◌∷◌, ◌++◌, length, true, None, refl, sym, ◌∙◌, ap, subst, arith, append_assoc, append-nil, length-append, drop, slice_index_or}
use Rattle.std.proofs.lemmas.List.{drop_all}
use Rattle.akl_terms.specs.declared.name.Name.{Name}
use Rattle.akl_terms.specs.declared.name.Var.{Var}
use Rattle.akl_terms.specs.declared.program.Code.{Code}
use Rattle.akl_terms.specs.declared.program.Goal.{Goal}
use Rattle.akl_terms.specs.declared.term.Node.{Node}
use Rattle.akl_model.specs.declared.label.Rule.{Rule}
use Rattle.akl_model.specs.declared.label.Label.{Label}
use Rattle.local_store.specs.Parts.{ToldStore}
use Rattle.local_store.specs.Stored.{Stored}
use Rattle.rational_unify.specs.Known.{found_in}
use Rattle.rational_unify.proofs.Taking.{drop-next}
use Rattle.local_store.specs.Chained.{bindings_from, IsSolvedChain}
use Rattle.body_goals.specs.declared.body.Body.{Body}
use Rattle.body_goals.specs.Takes.{within, AreUnbound}
use Rattle.body_goals.specs.Reduced.{label_of, goal_of, name_of, Reduces, finishes, leaves, tells, holds, IsReduced, GoesOn, left, told, held}

module _ (symbols : List (List ℕ)) (nodes : List Node) (around : List Stored) (frame : Name) (first : ℕ) (codes : List Code) (old : ToldStore) (before : List Label) where
  -- so far the first goals are reduced or left, and these are the rest, named from a number on
  pub record Reducing (now : ToldStore) (after : List Label) (body : Body) (n : ℕ) (rest : List Code) : Type 0 where
    pub labels : List Label
    pub bound : List Var
    pub all_labels : after ≡ before ++ labels
    pub all_bound : now.bound ≡ old.bound ++ bound
    pub behind : body.behind ≡ length labels
    pub free : AreUnbound (bindings_from (within around old.store)) bound
    pub kept : (x : Var) → found_in (bindings_from (within around now.store)) x ≡ None → found_in (bindings_from (within around old.store)) x ≡ None
    pub solved : now.solved ≡ old.solved
    pub chain : now.solved ≡ true → IsSolvedChain nodes (within around now.store)
    pub leads : (ls : List Label) (t : Stored) (goals : List (Name × Goal)) (more : List Var) (last : ℕ) → Reduces symbols nodes around frame body.behind body.told now.store n rest ls t goals more last
        → Reduces symbols nodes around frame 0 0 old.store first codes (labels ++ ls) t (body.goals.items ++ goals) (bound ++ more) last

  pub begins : (body : Body) → body.goals.items ≡ [] → body.behind ≡ 0 → body.told ≡ 0 → (old.solved ≡ true → IsSolvedChain nodes (within around old.store)) → Reducing old before body first codes
  begins body g b t s = record {
    labels = [];
    bound = [];
    all_labels = sym (append-nil before);
    all_bound = sym (append-nil old.bound);
    behind = b;
    free = tt;
    kept = λ x h. h;
    solved = refl;
    chain = s;
    leads = λ ls u goals more last h.
        subst (λ (l : List (Name × Goal)). Reduces symbols nodes around frame 0 0 old.store first codes ls u (l ++ goals) more last) (sym g)
        (subst (λ (k : ℕ). Reduces symbols nodes around frame 0 k old.store first codes ls u goals more last) t
        (subst (λ (k : ℕ). Reduces symbols nodes around frame k body.told old.store first codes ls u goals more last) b h));
  }

  module _ (now : ToldStore) (after : List Label) (body : Body) (n : ℕ) (c : Code) (rest : List Code) (r : Reducing now after body n (c ∷ rest)) (now' : ToldStore) (after' : List Label) (body' : Body) where
    more_labels : (l : Label) → after' ≡ after ++ l ∷ [] → after' ≡ before ++ (r.labels ++ l ∷ [])
    more_labels l e = e ∙ ap (λ (ls : List Label). ls ++ l ∷ []) r.all_labels ∙ append_assoc before r.labels (l ∷ [])

    one_more : (l : Label) → body'.behind ≡ body.behind + 1 → body'.behind ≡ length (r.labels ++ l ∷ [])
    one_more l e =
        let p : length (r.labels ++ l ∷ []) ≡ length r.labels + 1 = length-append r.labels (l ∷ []) in
        let q : body.behind ≡ length r.labels = r.behind in
        omega arith

    all_unbound : (xs ys : List Var) → AreUnbound (bindings_from (within around old.store)) xs
        → ((x : Var) → found_in (bindings_from (within around now.store)) x ≡ None → found_in (bindings_from (within around old.store)) x ≡ None) → AreUnbound (bindings_from (within around now.store)) ys
        → AreUnbound (bindings_from (within around old.store)) (xs ++ ys)
    all_unbound [] [] a k b = tt
    all_unbound [] (y ∷ ys) a k b = (k y b.0, all_unbound [] ys a k b.1)
    all_unbound (x ∷ xs) ys a k b = (a.0, all_unbound xs ys a.1 k b)

    -- what comes in the end
    abbrev End : List Label → Stored → List (Name × Goal) → List Var → ℕ → Type 0
    End ls t goals more last = Reduces symbols nodes around frame 0 0 old.store first codes ls t goals more last

    pub goes_on : GoesOn symbols nodes around (name_of frame n) (goal_of frame c) now now' after after' body body' → Reducing now' after' body' (n + 1) rest
    goes_on (left same labels goals count behind) = record {
      labels = r.labels;
      bound = r.bound;
      all_labels = labels ∙ r.all_labels;
      all_bound = ap (λ (u : ToldStore). u.bound) same ∙ r.all_bound;
      behind = behind ∙ r.behind;
      free = r.free;
      kept = subst (λ (u : ToldStore). (x : Var) → found_in (bindings_from (within around u.store)) x ≡ None → found_in (bindings_from (within around old.store)) x ≡ None) (sym same) r.kept;
      solved = ap (λ (u : ToldStore). u.solved) same ∙ r.solved;
      chain = subst (λ (u : ToldStore). u.solved ≡ true → IsSolvedChain nodes (within around u.store)) (sym same) r.chain;
      leads = λ ls t gs more last h.
          subst (λ (l : List (Name × Goal)). End (r.labels ++ ls) t l (r.bound ++ more) last) (sym (append_assoc body.goals.items ((name_of frame n, goal_of frame c) ∷ []) gs) ∙ ap (λ (l : List (Name × Goal)). l ++ gs) (sym goals))
          (r.leads ls t ((name_of frame n, goal_of frame c) ∷ gs) more last (leaves body.behind body.told now.store n c rest ls t gs more last
          (subst (λ (u : ToldStore). Reduces symbols nodes around frame body.behind body.told u.store (n + 1) rest ls t gs more last) same
          (subst (λ (k : ℕ). Reduces symbols nodes around frame body.behind k now'.store (n + 1) rest ls t gs more last) count
          (subst (λ (k : ℕ). Reduces symbols nodes around frame k body'.told now'.store (n + 1) rest ls t gs more last) behind h)))));
    }
    goes_on (told rule into labels goals count behind) = record {
      labels = r.labels ++ label_of rule (name_of frame n) ∷ [];
      bound = r.bound ++ into.takes.bound;
      all_labels = more_labels (label_of rule (name_of frame n)) labels;
      all_bound = into.takes.all_bound ∙ ap (λ (l : List Var). l ++ into.takes.bound) r.all_bound ∙ append_assoc old.bound r.bound into.takes.bound;
      behind = one_more (label_of rule (name_of frame n)) behind;
      free = all_unbound r.bound into.takes.bound r.free (λ x h. r.kept x h) into.takes.takes.unbound;
      kept = λ x h. r.kept x (into.takes.takes.kept x h);
      solved = into.takes.solved ∙ r.solved;
      chain = λ q. into.takes.takes.solved;
      leads = λ ls t gs more last h.
          subst (λ (l : List Label). End l t (body'.goals.items ++ gs) ((r.bound ++ into.takes.bound) ++ more) last) (sym (append_assoc r.labels (label_of rule (name_of frame n) ∷ []) ls))
          (subst (λ (l : List Var). End (r.labels ++ label_of rule (name_of frame n) ∷ ls) t (body'.goals.items ++ gs) l last) (sym (append_assoc r.bound into.takes.bound more))
          (subst (λ (l : List (Name × Goal)). End (r.labels ++ label_of rule (name_of frame n) ∷ ls) t (l ++ gs) (r.bound ++ (into.takes.bound ++ more)) last) (sym goals)
          (r.leads (label_of rule (name_of frame n) ∷ ls) t gs (into.takes.bound ++ more) last
          (tells body.behind body.told now.store n c rest ls t gs more last rule into.equation now'.store into.takes.bound into.tells into.takes.takes
          (subst (λ (k : ℕ). Reduces symbols nodes around frame (body.behind + 1) k now'.store (n + 1) rest ls t gs more last) count
          (subst (λ (k : ℕ). Reduces symbols nodes around frame k body'.told now'.store (n + 1) rest ls t gs more last) behind h))))));
    }
    goes_on (held holds_now same labels goals count behind) = record {
      labels = r.labels ++ label_of Rule.Eval (name_of frame n) ∷ [];
      bound = r.bound;
      all_labels = more_labels (label_of Rule.Eval (name_of frame n)) labels;
      all_bound = ap (λ (u : ToldStore). u.bound) same ∙ r.all_bound;
      behind = one_more (label_of Rule.Eval (name_of frame n)) behind;
      free = r.free;
      kept = subst (λ (u : ToldStore). (x : Var) → found_in (bindings_from (within around u.store)) x ≡ None → found_in (bindings_from (within around old.store)) x ≡ None) (sym same) r.kept;
      solved = ap (λ (u : ToldStore). u.solved) same ∙ r.solved;
      chain = subst (λ (u : ToldStore). u.solved ≡ true → IsSolvedChain nodes (within around u.store)) (sym same) r.chain;
      leads = λ ls t gs more last h.
          subst (λ (l : List Label). End l t (body'.goals.items ++ gs) (r.bound ++ more) last) (sym (append_assoc r.labels (label_of Rule.Eval (name_of frame n) ∷ []) ls))
          (subst (λ (l : List (Name × Goal)). End (r.labels ++ label_of Rule.Eval (name_of frame n) ∷ ls) t (l ++ gs) (r.bound ++ more) last) (sym goals)
          (r.leads (label_of Rule.Eval (name_of frame n) ∷ ls) t gs more last
          (holds body.behind body.told now.store n c rest ls t gs more last holds_now
          (subst (λ (u : ToldStore). Reduces symbols nodes around frame (body.behind + 1) body.told u.store (n + 1) rest ls t gs more last) same
          (subst (λ (k : ℕ). Reduces symbols nodes around frame (body.behind + 1) k now'.store (n + 1) rest ls t gs more last) count
          (subst (λ (k : ℕ). Reduces symbols nodes around frame k body'.told now'.store (n + 1) rest ls t gs more last) behind h))))));
    }

  pub ends : (now : ToldStore) (after : List Label) (body : Body) (n : ℕ) → Reducing now after body n [] → IsReduced symbols nodes around frame first codes old now before after body
  ends now after body n r = record {
    labels = r.labels;
    bound = r.bound;
    reduces = subst (λ (l : List Label). Reduces symbols nodes around frame 0 0 old.store first codes l now.store body.goals.items r.bound body.told) (append-nil r.labels)
        (subst (λ (l : List Var). Reduces symbols nodes around frame 0 0 old.store first codes (r.labels ++ []) now.store body.goals.items l body.told) (append-nil r.bound)
        (subst (λ (l : List (Name × Goal)). Reduces symbols nodes around frame 0 0 old.store first codes (r.labels ++ []) now.store l (r.bound ++ []) body.told) (append-nil body.goals.items)
        (r.leads [] now.store [] [] body.told (finishes body.behind body.told now.store n))));
    all_labels = r.all_labels;
    all_bound = r.all_bound;
    behind = r.behind;
    free = r.free;
    solved = r.solved;
    whole = r.chain;
  }

  -- over the list of all goals
  pub next : (now : ToldStore) (after : List Label) (body : Body) (n i : ℕ) → i < length codes → Reducing now after body n (drop i codes) → n ≡ first + i → (d : Code) (now' : ToldStore) (after' : List Label) (body' : Body)
      → GoesOn symbols nodes around (name_of frame n) (goal_of frame (slice_index_or codes i d)) now now' after after' body body' → Reducing now' after' body' (n + 1) (drop (i + 1) codes) × (n + 1 ≡ first + (i + 1))
  next now after body n i l r e d now' after' body' g = (
    goes_on now after body n (slice_index_or codes i d) (drop (i + 1) codes) (subst (λ (cs : List Code). Reducing now after body n cs) (drop-next codes i (i + 1) d l (omega arith)) r) now' after' body' g,
    omega arith,
  )

  pub all : (now : ToldStore) (after : List Label) (body : Body) (n i : ℕ) → length codes ≤ i → Reducing now after body n (drop i codes) → IsReduced symbols nodes around frame first codes old now before after body
  all now after body n i l r = ends now after body n (subst (λ (cs : List Code). Reducing now after body n cs) (drop_all i codes l) r)
