-- Clauses are sifted one after another.
use Rattle.std.proofs.Common.{◌≡◌, ℕ, ◌+◌, Bool, List, [], ◌∷◌, ◌++◌, length, Option, Some, None, true, false, refl, sym, ◌∙◌, ap, subst, arith, append_assoc, append-nil}
use Rattle.std.specs.Prelude.{is_none, ⊤}
use Rattle.akl_terms.specs.declared.name.Name.{Name}
use Rattle.akl_terms.specs.declared.name.Place.{Place}
use Rattle.akl_terms.specs.declared.term.Node.{Node}
use Rattle.akl_terms.specs.declared.program.Clause.{Clause}
use Rattle.akl_model.specs.declared.label.Rule.{Rule}
use Rattle.akl_model.specs.declared.label.Label.{Label}
use Rattle.akl_model.specs.Instances.{drawn_by}
use Rattle.local_store.specs.Stored.{Stored}
use Rattle.plan_laws.specs.AtOnce.{by}
use Rattle.call_plan.specs.declared.guards.Guard.{Guard}
use Rattle.call_plan.specs.declared.heads.Arguments.{Arguments}
use Rattle.call_plan.specs.declared.own.Own.{Own}
use Rattle.call_plan.specs.declared.sifting.Left.{Left}
use Rattle.call_plan.specs.Owns.{stored, IsPlainOwn}
use Rattle.call_plan.specs.Sifted.{name_at, frame_at, Clashes, Evaluated, IsHeadStore, IsOwn, EvaluatesPlainly, Goes, clashes, refuted, IsLeft, AddsGoing, AddsLeft, Leaves, none_left, goes, is_left, IsSifted, store_of}
use Rattle.call_plan.specs.Guarded.{ComesOut, IsGuarded}

two_on : (n : ℕ) → n + 1 + 1 ≡ n + 2
two_on n = omega arith

module _ (symbols : List (List ℕ)) (nodes : List Node) (path : List Stored) (a : Arguments) where
  -- what fails where more is said of how goals are evaluated fails where less is said
  goes_still : (w n : ℕ) (c : Clause) (plainly still : Bool) → (still ≡ true → plainly ≡ true) → (ls : List Label) → Goes symbols nodes path a w n c plainly ls → Goes symbols nodes path a w n c still ls
  goes_still w n c plainly still t _ (clashes k) = clashes k
  goes_still w n c plainly still t _ (refuted own ls h plain e) = refuted own ls h (λ q. plain (t q)) e

  left_still : (w n : ℕ) (c : Clause) (cs : List Clause) (plainly still : Bool) → (still ≡ true → plainly ≡ true) → (ls : List Label) (l : Left) → IsLeft symbols nodes path a w n c cs plainly ls l → IsLeft symbols nodes path a w n c cs still ls l
  left_still w n c cs plainly still t ls l h = record { clause = h.clause; name = h.name; frame = h.frame; store = h.store; plain = h.plain; evaluates = λ q. h.evaluates (t q); guard = h.guard; behind = h.behind }

  pub leaves_still : (w : ℕ) (plainly still : Bool) → (still ≡ true → plainly ≡ true) → (n : ℕ) (cs : List Clause) (ls : List Label) (o : Option Left) → Leaves symbols nodes path a w plainly n cs ls o → Leaves symbols nodes path a w still n cs ls o
  leaves_still w plainly still t _ _ _ _ (none_left n) = none_left n
  leaves_still w plainly still t _ _ _ _ (goes n c cs ks ls o k h) = goes n c cs ks ls o (goes_still w n c plainly still t ks k) (leaves_still w plainly still t (n + (2 + length c.guard)) cs ls o h)
  leaves_still w plainly still t _ _ _ _ (is_left n c cs ls l h) = is_left n c cs ls l (left_still w n c cs plainly still t ls l h)

  -- so many of the clauses were passed by, and these are the rest
  pub record Passing (first : Name) (clauses : List Clause) (old : List Label) (was : Bool) (labels : List Label) (plainly : Bool) (name : Name) (rest : List Clause) : Type 0 where
    pub worker : name.worker ≡ first.worker
    pub names : name.number + drawn_by rest ≡ first.number + drawn_by clauses
    pub done : List Label
    pub labels_are : labels ≡ old ++ done
    pub before : plainly ≡ true → was ≡ true
    pub leads : (still : Bool) → (still ≡ true → plainly ≡ true) → (ls : List Label) (o : Option Left) → Leaves symbols nodes path a first.worker still name.number rest ls o → Leaves symbols nodes path a first.worker still first.number clauses (done ++ ls) o

  pub begins : (first : Name) (clauses : List Clause) (old : List Label) (was : Bool) → Passing first clauses old was old was first clauses
  begins first clauses old was = record { worker = refl; names = refl; done = []; labels_are = sym (append-nil old); before = λ e. e; leads = λ still t ls o h. h }

  module _ (first : Name) (clauses : List Clause) (old : List Label) (was : Bool) (labels : List Label) (plainly : Bool) (name : Name) where
    pub passes : (c : Clause) (cs : List Clause) (new : List Label) (now : Bool) → Passing first clauses old was labels plainly name (c ∷ cs) → AddsGoing symbols nodes path a name.worker name.number c labels plainly new now
        → Passing first clauses old was new now (name_at name.worker (name.number + (2 + length c.guard))) cs
    passes c cs new now p k = record {
      worker = p.worker;
      names = let e : name.number + drawn_by (c ∷ cs) ≡ first.number + drawn_by clauses = p.names in omega arith;
      done = p.done ++ (k.evaluations ++ by name.worker Rule.Fail (Place.Box name) None ∷ []);
      labels_are = k.labels ∙ ap (λ (ls : List Label). ls ++ (k.evaluations ++ by name.worker Rule.Fail (Place.Box name) None ∷ [])) p.labels_are
          ∙ append_assoc old p.done (k.evaluations ++ by name.worker Rule.Fail (Place.Box name) None ∷ []);
      before = λ e. p.before (k.before e);
      leads = λ still t ls o h. subst (λ (ks : List Label). Leaves symbols nodes path a first.worker still first.number clauses ks o)
          (sym (append_assoc p.done (k.evaluations ++ by name.worker Rule.Fail (Place.Box name) None ∷ []) ls
          ∙ ap (λ (ks : List Label). p.done ++ ks) (append_assoc k.evaluations (by name.worker Rule.Fail (Place.Box name) None ∷ []) ls)))
          (p.leads still (λ e. k.before (t e)) (k.evaluations ++ by name.worker Rule.Fail (Place.Box name) None ∷ ls) o
          (subst (λ (w : ℕ). Leaves symbols nodes path a first.worker still name.number (c ∷ cs) (k.evaluations ++ by w Rule.Fail (Place.Box (name_at w name.number)) None ∷ ls) o) (sym p.worker)
          (goes name.number c cs k.evaluations ls o (goes_still first.worker name.number c now still t k.evaluations (subst (λ (w : ℕ). Goes symbols nodes path a w name.number c now k.evaluations) p.worker k.goes)) h)));
    }

    pub ends_left : (c : Clause) (cs : List Clause) (new : List Label) (now : Bool) (l : Left) → Passing first clauses old was labels plainly name (c ∷ cs) → AddsLeft symbols nodes path a name.worker name.number c cs labels plainly new now l
        → IsSifted symbols nodes path a first.worker first.number clauses old was new now (Some l)
    ends_left c cs new now l p h = record {
      sifting = p.done ++ h.evaluations;
      labels = h.labels ∙ ap (λ (ls : List Label). ls ++ h.evaluations) p.labels_are ∙ append_assoc old p.done h.evaluations;
      leaves = p.leads now h.before h.evaluations (Some l) (is_left name.number c cs h.evaluations l (subst (λ (w : ℕ). IsLeft symbols nodes path a w name.number c cs now h.evaluations l) p.worker h.left));
      before = λ e. p.before (h.before e);
    }

    pub ends_none : (rest : List Clause) → length rest ≡ 0 → Passing first clauses old was labels plainly name rest → IsSifted symbols nodes path a first.worker first.number clauses old was labels plainly None
    ends_none [] e p = record {
      sifting = p.done;
      labels = p.labels_are;
      leaves = subst (λ (ks : List Label). Leaves symbols nodes path a first.worker plainly first.number clauses ks None) (append-nil p.done) (p.leads plainly (λ e. e) [] None (none_left name.number));
      before = p.before;
    }
    ends_none (c ∷ cs) e p = absurd (omega arith)

  -- the alternative of a clause fails, or it is left

  module _ (w n : ℕ) (c : Clause) (old : List Label) (was : Bool) (middle new : List Label) (plainly : Bool) (before : plainly ≡ true → was ≡ true) (l : Label) (pushes : new ≡ middle ++ l ∷ []) (is : l ≡ by w Rule.Fail (Place.Box (name_at w n)) None) where
    pushed : new ≡ middle ++ by w Rule.Fail (Place.Box (name_at w n)) None ∷ []
    pushed = pushes ∙ ap (λ (k : Label). middle ++ k ∷ []) is

    pub head_goes : middle ≡ old → Clashes nodes path a (frame_at w n) c → AddsGoing symbols nodes path a w n c old was new plainly
    head_goes e k = record {
      evaluations = [];
      labels = pushed ∙ ap (λ (ls : List Label). ls ++ by w Rule.Fail (Place.Box (name_at w n)) None ∷ []) e;
      goes = clashes k;
      before = before;
    }

    pub guard_goes : (own : Own) → IsOwn nodes path a (frame_at w n) c own → EvaluatesPlainly plainly c own → IsGuarded symbols nodes (path ++ stored (frame_at w n) own ∷ []) (frame_at w n) (n + 1 + 1) c.guard old middle Guard.Fails
        → AddsGoing symbols nodes path a w n c old was new plainly
    guard_goes own h plain g = record {
      evaluations = g.evaluations;
      labels = pushed ∙ ap (λ (ls : List Label). ls ++ by w Rule.Fail (Place.Box (name_at w n)) None ∷ []) g.labels ∙ append_assoc old g.evaluations (by w Rule.Fail (Place.Box (name_at w n)) None ∷ []);
      before = before;
      goes = refuted own g.evaluations h plain (subst (λ (m : ℕ). Evaluated symbols nodes (path ++ stored (frame_at w n) own ∷ []) (frame_at w n) m c.guard g.evaluations false) (two_on n) g.comes);
    }

  pub guard_stays : (w n : ℕ) (c : Clause) (cs : List Clause) (old : List Label) (was : Bool) (new : List Label) (plainly : Bool) → (plainly ≡ true → was ≡ true) → (l : Left) (out : Guard) → l.clause.now ≡ c → l.name ≡ name_at w n → l.frame ≡ frame_at w n → IsHeadStore nodes path a w n c (store_of l) → IsPlainOwn nodes path l.frame l.own → EvaluatesPlainly plainly c l.own → l.behind.now ≡ cs
      → IsGuarded symbols nodes (path ++ store_of l ∷ []) (frame_at w n) (n + 1 + 1) c.guard old new out → (l.holds ≡ true → out ≡ Guard.Holds) → AddsLeft symbols nodes path a w n c cs old was new plainly l
  guard_stays w n c cs old was new plainly before l out clause name frame store plain evaluates behind g holds = record {
    evaluations = g.evaluations;
    labels = g.labels;
    left = record {
      clause = clause;
      name = name;
      frame = frame;
      store = store;
      plain = plain;
      evaluates = evaluates;
      guard = λ q. subst (λ (m : ℕ). Evaluated symbols nodes (path ++ store_of l ∷ []) (frame_at w n) m c.guard g.evaluations true) (two_on n)
          (subst (ComesOut symbols nodes (path ++ store_of l ∷ []) (frame_at w n) (n + 1 + 1) c.guard g.evaluations) (holds q) g.comes);
      behind = behind;
    };
    before = before;
  }

  -- the names of those behind the one that is left

  abbrev Names : ℕ → List Clause → Option Left → Type 0
  Names n cs None = ⊤
  Names n cs (Some l) = l.name.number + ((2 + length l.clause.now.guard) + drawn_by l.behind.now) ≡ n + drawn_by cs

  names_more : (n : ℕ) (c : Clause) (cs : List Clause) (o : Option Left) → Names (n + (2 + length c.guard)) cs o → Names n (c ∷ cs) o
  names_more n c cs None h = tt
  names_more n c cs (Some l) h = let e : l.name.number + ((2 + length l.clause.now.guard) + drawn_by l.behind.now) ≡ n + (2 + length c.guard) + drawn_by cs = h in omega arith

  names_left : (w n : ℕ) (c : Clause) (cs : List Clause) (plainly : Bool) (ls : List Label) (l : Left) → IsLeft symbols nodes path a w n c cs plainly ls l → Names n (c ∷ cs) (Some l)
  names_left w n c cs plainly ls l h = ap (λ (m : Name). m.number + ((2 + length l.clause.now.guard) + drawn_by l.behind.now)) h.name
      ∙ ap (λ (d : Clause). n + ((2 + length d.guard) + drawn_by l.behind.now)) h.clause ∙ ap (λ (ds : List Clause). n + ((2 + length c.guard) + drawn_by ds)) h.behind

  named : (w : ℕ) (plainly : Bool) (n : ℕ) (cs : List Clause) (ls : List Label) (o : Option Left) → Leaves symbols nodes path a w plainly n cs ls o → Names n cs o
  named w plainly _ _ _ _ (none_left n) = tt
  named w plainly _ _ _ _ (goes n c cs ks ls o k h) = names_more n c cs o (named w plainly (n + (2 + length c.guard)) cs ls o h)
  named w plainly _ _ _ _ (is_left n c cs ls l h) = names_left w n c cs plainly ls l h

  pub names_behind : (w n : ℕ) (cs : List Clause) (old : List Label) (was : Bool) (new : List Label) (plainly : Bool) (l : Left) → IsSifted symbols nodes path a w n cs old was new plainly (Some l) → l.name.number + ((2 + length l.clause.now.guard) + drawn_by l.behind.now) ≡ n + drawn_by cs
  names_behind w n cs old was new plainly l s = named w plainly n cs s.sifting (Some l) s.leaves

pub is_nothing : (o : Option Left) → is_none o ≡ true → o ≡ None
is_nothing None e = refl
is_nothing (Some l) e = cc
