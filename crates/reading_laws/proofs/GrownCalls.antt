-- A call at once leads on in a box that has grown.
use Rattle.std.proofs.Common.{◌≡◌, ℕ, ◌+◌, List, ◌++◌, length, None, refl, sym, ◌∙◌, ap, subst, append_assoc}
use Rattle.std.specs.Prelude.{slice_index, ◌↔◌}
use Rattle.akl_terms.specs.declared.name.Name.{Name}
use Rattle.akl_terms.specs.declared.name.Var.{Var}
use Rattle.akl_terms.specs.declared.program.Program.{Program}
use Rattle.akl_terms.specs.Equal.{Equations, IsTold, told, Follows, IsConsistent}
use Rattle.akl_terms.proofs.EqualLaws.{IsConsistent-follows, IsTold-left}
use Rattle.constraint_laws.specs.Bound.{IsNewlyBound}
use Rattle.akl_model.specs.declared.label.Rule.{Rule}
use Rattle.akl_model.specs.Config.{Atom, Config, held_in, Found, equations_of, whole}
use Rattle.akl_model.specs.Rules.{joining}
use Rattle.akl_model.specs.Instances.{instances, drawn_by}
use Rattle.plan_laws.proofs.Again.{atom_shape}
use Rattle.plan_laws.specs.AtOnce.{Sifts, Tells, IsAtOnce, AreInForce}
use Rattle.plan_laws.proofs.BodySteps.{ToldMore, told_more}
use Rattle.plan_laws.proofs.Calls.{at_once_law}
use Rattle.reading_laws.proofs.Beside.{beside_law}
use Rattle.plan_laws.specs.Untold.{KeepEquations}
use Rattle.plan_laws.specs.Wakes.{TellsNothing}
use Rattle.reading_laws.specs.CallsAgain.{outcomes, body_outcomes, MeetsLater, IsAtOnceLater}
use Rattle.reading_laws.proofs.GrownAlternatives.{sifts_later, sifts_silent, ends_later}
use Rattle.reading_laws.proofs.GrownBodies.{same_rest, TellsLater, tells_later, grown_more}

module _ (rules : List Rule) (force : AreInForce rules) (p : Program) (c : Config) (w : ℕ) (g : Name) (f : Found) (x : IsAtOnce p c w g f) (d : Config) (k : Found) (m : MeetsLater x d k) where
  abbrev first : ℕ
  first = slice_index c.next w

  abbrev after_fork : ℕ
  after_fork = slice_index c.next w + drawn_by x.called.clauses

  body_told : ToldMore p w (after_fork + length x.last.body) f.around (joining x.last f.content) x.after
  body_told = told_more p w (after_fork + length x.last.body) f.around (joining x.last f.content) after_fork x.last.body x.body_labels x.after x.goals_left x.body

  grows : Follows (whole f) (whole k)
  grows = record { each = λ {s} {t} n. told (m.keeps s t n) }

  -- all that the call adds to its box
  abbrev added : Equations
  added = x.last.equations ++ body_told.more

  was_added : x.after.equations ≡ f.content.equations ++ added
  was_added = body_told.equations ∙ append_assoc f.content.equations x.last.equations body_told.more

  was_whole : equations_of f.around ++ x.after.equations ≡ whole f ++ added
  was_whole = ap (λ (E : Equations). equations_of f.around ++ E) was_added ∙ sym (append_assoc (equations_of f.around) f.content.equations added)

  beside : IsConsistent (whole k ++ added) × ((v : Var) → IsNewlyBound (whole f) (whole f ++ added) v ↔ IsNewlyBound (whole k) (whole k ++ added) v)
  beside = beside_law (whole f) (whole k) added grows m.consistent (subst IsConsistent was_whole x.consistent)
      (λ v n. m.unbound v (subst (λ (E : Equations). IsNewlyBound (whole f) E v) (sym was_whole) n))

  last_consistent : IsConsistent (whole k ++ x.last.equations)
  last_consistent = IsConsistent-follows (record {
    each = λ {s} {t} n. told (subst (λ (E : Equations). IsTold E s t) (append_assoc (whole k) x.last.equations body_told.more)
        (IsTold-left (whole k ++ x.last.equations) body_told.more s t n));
  }) beside.0

  -- the body's goals are told over what joined
  body_later : TellsLater p w (after_fork + length x.last.body) k.around (joining x.last f.content) (joining x.last k.content) after_fork x.last.body x.body_labels x.after x.goals_left (body_outcomes x)
  body_later = tells_later p w (after_fork + length x.last.body) f.around k.around (joining x.last f.content) (joining x.last k.content) after_fork x.last.body x.body_labels x.after x.goals_left x.body
      (grown_more (whole f) (whole k) x.last.equations grows (equations_of f.around ++ (joining x.last f.content).equations) (equations_of k.around ++ (joining x.last k.content).equations)
      (sym (append_assoc (equations_of f.around) f.content.equations x.last.equations)) (sym (append_assoc (equations_of k.around) k.content.equations x.last.equations)))
      (λ M e. subst (λ (E : Equations). IsConsistent (equations_of k.around ++ E)) (whole_added M e) (subst IsConsistent (append_assoc (equations_of k.around) k.content.equations added) beside.0))
    where
      whole_added : (M : Equations) → x.after.equations ≡ (joining x.last f.content).equations ++ M → k.content.equations ++ added ≡ (joining x.last k.content).equations ++ M
      whole_added M e = sym (append_assoc k.content.equations x.last.equations body_told.more)
          ∙ ap (λ (E : Equations). (k.content.equations ++ x.last.equations) ++ E) (same_rest (joining x.last f.content).equations body_told.more M (sym body_told.equations ∙ e))

  is_added : body_later.after.equations ≡ k.content.equations ++ added
  is_added = body_later.is ∙ append_assoc k.content.equations x.last.equations body_later.more
      ∙ ap (λ (E : Equations). k.content.equations ++ (x.last.equations ++ E)) (same_rest (joining x.last f.content).equations body_later.more body_told.more (sym body_later.was ∙ body_told.equations))

  -- what is sifted and told goes on from the worker's next number, whatever it is called
  abbrev SiftsSo : ℕ → Type 0
  SiftsSo n = (v : Sifts p w (n + drawn_by x.called.clauses) k (instances p.templates.nodes w n x.arguments x.called.clauses) x.sift_labels x.left)
      × (TellsNothing x → KeepEquations p w (n + drawn_by x.called.clauses) k (instances p.templates.nodes w n x.arguments x.called.clauses) x.sift_labels x.left v)

  sifted : SiftsSo (slice_index d.next w)
  sifted = subst SiftsSo (sym m.next) (
    sifts_later f k grows p w after_fork (instances p.templates.nodes w first x.arguments x.called.clauses) x.sift_labels x.left x.sifts m.evaluates,
    λ t. sifts_silent f k grows p w after_fork (instances p.templates.nodes w first x.arguments x.called.clauses) x.sift_labels x.left x.sifts m.evaluates t,
  )

  abbrev TellsSo : ℕ → Type 0
  TellsSo n = (v : Tells p w (n + drawn_by x.called.clauses + length x.last.body) k.around (joining x.last k.content) (n + drawn_by x.called.clauses) x.last.body x.body_labels body_later.after x.goals_left)
      × (outcomes p w (n + drawn_by x.called.clauses + length x.last.body) k.around (joining x.last k.content) (n + drawn_by x.called.clauses) x.last.body x.body_labels body_later.after x.goals_left v ≡ body_outcomes x)

  bodied : TellsSo (slice_index d.next w)
  bodied = subst TellsSo (sym m.next) (body_later.tells, body_later.same)

  again : IsAtOnce p d w g k
  again = record {
    definition = x.definition;
    arguments = x.arguments;
    held = atom_shape (Atom.call x.definition x.arguments None) (held_in g f.goals) (held_in g k.goals) m.goal x.held;
    called = x.called;
    is_called = x.is_called;
    op = x.op;
    is_operator = x.is_operator;
    few_names = x.few_names;
    sift_labels = x.sift_labels;
    left = x.left;
    sifts = sifted.0;
    last = x.last;
    end_labels = x.end_labels;
    ends = ends_later f k grows m.consistent x.last m.outside last_consistent m.keeps w g x.op x.left x.end_labels x.ends;
    few_goals = x.few_goals;
    body_labels = x.body_labels;
    after = body_later.after;
    goals_left = x.goals_left;
    body = bodied.0;
    consistent = subst (λ (E : Equations). IsConsistent (equations_of k.around ++ E)) (sym is_added) (subst IsConsistent (append_assoc (equations_of k.around) k.content.equations added) beside.0);
  }

  pub calls_later : IsAtOnceLater rules x d k
  unfolding again
  calls_later = record {
    is_home = m.is_home;
    again = again;
    same_labels = refl;
    same_names = refl;
    same_last = refl;
    same_left = refl;
    same_body = refl;
    same_outcomes = bodied.1;
    silent = sifted.1;
    added = added;
    was_added = was_added;
    is_added = is_added;
    binds = beside.1;
    derives = at_once_law rules force p d m.distinct w g k m.is_home again;
  }
