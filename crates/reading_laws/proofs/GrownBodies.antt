-- The goals of a body that are told at once are told so in a box that has grown.
use Rattle.std.proofs.Common.{inl, inr, ◌≡◌, ℕ, ◌+◌, List, [], ◌∷◌, ◌++◌, Bool, true, false, Some, None, refl, sym, ◌∙◌, ap, subst, append_assoc, append-nil}
use Rattle.std.specs.Prelude.{if◌then◌else◌}
use Rattle.akl_terms.specs.declared.name.Name.{Name}
use Rattle.akl_terms.specs.declared.name.Place.{Place}
use Rattle.akl_terms.specs.declared.program.Program.{Program}
use Rattle.akl_terms.specs.Arithmetic.{Answer, value, truth}
use Rattle.akl_terms.specs.Names.{same_name}
use Rattle.akl_terms.specs.Equal.{Equations, told, Follows, IsConsistent}
use Rattle.akl_terms.specs.Tree.{Tree, integer}
use Rattle.akl_terms.proofs.EqualLaws.{IsConsistent-follows, IsTold-left, IsTold-either, IsTold-right, Equal-follows}
use Rattle.akl_terms.proofs.SameNames.{same_name-refl}
use Rattle.akl_model.specs.declared.label.Rule.{Rule}
use Rattle.akl_model.specs.declared.label.Label.{Label}
use Rattle.akl_model.specs.Config.{Atom, Content, no_boxes, box, Goals, no_goals, atom, an_atom, held_in, without_goal, Found, equations_of}
use Rattle.akl_model.specs.Rules.{Reading, answer, Change, becomes, telling, tell, eval}
use Rattle.akl_model.specs.Conditions.{ComesTo, Makes}
use Rattle.akl_model.specs.Stable.{Allows}
use Rattle.akl_model.proofs.Options.{some_value}
use Rattle.step_laws.proofs.GoalEdits.{goal_first}
use Rattle.plan_laws.proofs.GrownReads.{reads_still}
use Rattle.plan_laws.specs.AtOnce.{by, IsOfGuard, Tells, finishes, leaves, tells, holds}
use Rattle.plan_laws.proofs.BodySteps.{ToldMore, told_more}
use Rattle.reading_laws.specs.CallsAgain.{outcomes}

-- lists that begin alike end alike
pub same_rest : (xs ys zs : Equations) → xs ++ ys ≡ xs ++ zs → ys ≡ zs
same_rest [] ys zs e = e
same_rest (x ∷ xs) ys zs e = let q : xs ++ ys ≡ xs ++ zs = cc in same_rest xs ys zs q

-- a box with one goal, and with further equations
abbrev pub lone : List Content → Content → Name → Atom → Found
lone around b i a = record { around = around; content = b; goals = atom i a no_goals }

abbrev pub with_more : Content → Equations → Content
with_more b more = record b { equations = b.equations ++ more }

one_held : (i : Name) (a : Atom) → held_in i (atom i a no_goals) ≡ Some (an_atom a)
one_held i a = goal_first i i (an_atom a) None (same_name-refl i)

one_goes : (i : Name) (a : Atom) → without_goal i (atom i a no_goals) ≡ no_goals
one_goes i a = on (same_name i i) (same_name-refl i)
  where
    on : (t : Bool) → t ≡ true → (if t then no_goals else atom i a no_goals) ≡ no_goals
    on true e = refl
    on false e = cc

goes_alike : (b c : Content) (gs : Goals) → Some (becomes b gs 0) ≡ Some (becomes c no_goals 0) → b ≡ c
goes_alike b c gs e = let q : box b gs no_boxes ≡ box c no_goals no_boxes = ap (λ (v : Change). v.boxes) (some_value e) in cc

stays_not : (i : Name) (a : Atom) (t : Bool) (b b1 : Content) → t ≡ true → Some (becomes b (if t then atom i Atom.fail no_goals else atom i a no_goals) 0) ≡ Some (becomes b1 no_goals 0) → ⊥
stays_not i a true b b1 q e = let z : box b (atom i Atom.fail no_goals) no_boxes ≡ box b1 no_goals no_boxes = ap (λ (v : Change). v.boxes) (some_value e) in absurd cc
stays_not i a false b b1 q e = absurd cc

-- what a goal tells when it goes, the same in each box
pub record TellsAlike (p : Program) (w next : ℕ) (r : Rule) (i : Name) (a : Atom) (b b1 : Content) (around later : List Content) : Type 0 where
  pub more : Equations
  pub is : b1 ≡ with_more b more
  pub also : (c : Content) → IsConsistent (equations_of later ++ c.equations) → Follows (equations_of around ++ b.equations) (equations_of later ++ c.equations)
      → Makes (Allows p) p next (by w r (Place.Goal i) None) (lone later c i a) (becomes (with_more c more) no_goals 0)

module _ (p : Program) (w next : ℕ) (i : Name) (around later : List Content) (b b1 : Content) where
  abbrev Result : Rule → Atom → Type 0
  Result r a = TellsAlike p w next r i a b b1 around later

  abbrev Made : Rule → Atom → Type 0
  Made r a = Makes (Allows p) p next (by w r (Place.Goal i) None) (lone around b i a) (becomes b1 no_goals 0)

  tell_alike : (a : Atom) → (m : Made Rule.Tell a) → tell i (lone around b i a) (Some (an_atom a)) ≡ Some (becomes b1 no_goals 0) → Result Rule.Tell a
  tell_alike (Atom.equation s t) m e = record {
    more = record { left = s; right = t } ∷ [];
    is = sym (goes_alike (telling s t b) b1 (without_goal i (atom i (Atom.equation s t) no_goals)) e);
    also = λ c h g. record {
      reading = m.reading;
      change = ap (tell i (lone later c i (Atom.equation s t))) (one_held i (Atom.equation s t)) ∙ ap (λ (gs : Goals). Some (becomes (telling s t c) gs 0)) (one_goes i (Atom.equation s t));
      allowed = tt;
      few_names = m.few_names;
    };
  }
  tell_alike (Atom.arithmetic test l r) m e = cc
  tell_alike (Atom.open_port l r) m e = cc
  tell_alike (Atom.send l r) m e = cc
  tell_alike (Atom.call d ts r) m e = cc
  tell_alike Atom.fail m e = cc

  comes_later : (v : Answer) (test : _) (l r : Tree) (c : Content) → IsConsistent (equations_of later ++ c.equations) → Follows (equations_of around ++ b.equations) (equations_of later ++ c.equations)
      → ComesTo p (answer v) (lone around b i (Atom.arithmetic test l r)) (Some (an_atom (Atom.arithmetic test l r))) → ComesTo p (answer v) (lone later c i (Atom.arithmetic test l r)) (held_in i (atom i (Atom.arithmetic test l r) no_goals))
  comes_later v test l r c h g x = subst (ComesTo p (answer v) (lone later c i (Atom.arithmetic test l r))) (sym (one_held i (Atom.arithmetic test l r)))
      (h, (reads_still p.templates.symbols (equations_of around ++ b.equations) (equations_of later ++ c.equations) g h).evaluates test l r v x.1)

  eval_alike : (v : Reading) (a : Atom) (m : Made Rule.Eval a) → m.reading ≡ v → eval v i (lone around b i a) (Some (an_atom a)) ≡ Some (becomes b1 no_goals 0) → ComesTo p v (lone around b i a) (Some (an_atom a)) → Result Rule.Eval a
  eval_alike (answer (value z)) (Atom.arithmetic test l r) m q e x = record {
    more = record { left = l; right = integer z } ∷ [];
    is = sym (goes_alike (telling l (integer z) b) b1 (without_goal i (atom i (Atom.arithmetic test l r) no_goals)) e);
    also = λ c h g. record {
      reading = answer (value z);
      change = ap (eval (answer (value z)) i (lone later c i (Atom.arithmetic test l r))) (one_held i (Atom.arithmetic test l r))
          ∙ ap (λ (gs : Goals). Some (becomes (telling l (integer z) c) gs 0)) (one_goes i (Atom.arithmetic test l r));
      allowed = comes_later (value z) test l r c h g x;
      few_names = m.few_names;
    };
  }
  eval_alike (answer (truth true)) (Atom.arithmetic test l r) m q e x = record {
    more = [];
    is = sym (goes_alike b b1 (without_goal i (atom i (Atom.arithmetic test l r) no_goals)) e) ∙ untold b;
    also = λ c h g. record {
      reading = answer (truth true);
      change = ap (eval (answer (truth true)) i (lone later c i (Atom.arithmetic test l r))) (one_held i (Atom.arithmetic test l r))
          ∙ (λ j. Some (becomes (untold c j) (one_goes i (Atom.arithmetic test l r) j) 0));
      allowed = comes_later (truth true) test l r c h g x;
      few_names = m.few_names;
    };
  }
    where
      untold : (c : Content) → c ≡ with_more c []
      untold c = λ j. record c { equations = sym (append-nil c.equations) j }
  eval_alike (answer (truth false)) (Atom.arithmetic test l r) m q e x = absurd (stays_not i (Atom.arithmetic test l r) (same_name i i) b b1 (same_name-refl i) e)
  eval_alike _ _ m q e x = absurd x

  pub alike : (r : Rule) (a : Atom) → IsOfGuard r → Made r a → Result r a
  alike Rule.Tell a guard m = tell_alike a m (sym (ap (tell i (lone around b i a)) (one_held i a)) ∙ m.change)
  alike Rule.Eval a guard m = eval_alike m.reading a m refl (sym (ap (eval m.reading i (lone around b i a)) (one_held i a)) ∙ m.change)
      (subst (ComesTo p m.reading (lone around b i a)) (one_held i a) m.allowed)
  alike _ a guard m = absurd guard

-- told over one content, and over another that has more equations, in the same order
pub record TellsLater (p : Program) (w next : ℕ) (later : List Content) (b c : Content) (n : ℕ) (body : List Atom) (ls : List Label) (b2 : Content) (left : List (Name × Atom)) (so : List Bool) : Type 0 where
  pub more : Equations
  pub was : b2.equations ≡ b.equations ++ more
  pub after : Content
  pub is : after.equations ≡ c.equations ++ more
  pub tells : Tells p w next later c n body ls after left
  pub same : outcomes p w next later c n body ls after left tells ≡ so

further : (later : List Content) (c : Content) (E M : Equations) → IsConsistent (equations_of later ++ (c.equations ++ (E ++ M))) → IsConsistent (equations_of later ++ ((with_more c E).equations ++ M))
further later c E M h = subst (λ (X : Equations). IsConsistent (equations_of later ++ X)) (sym (append_assoc c.equations E M)) h

less : (later : List Content) (c : Content) (E : Equations) → IsConsistent (equations_of later ++ (c.equations ++ E)) → IsConsistent (equations_of later ++ c.equations)
less later c E h = IsConsistent-follows (record {
  each = λ {s} {t} m. elim (IsTold-either (equations_of later) c.equations s t m) [
    | inl x ↦ told (IsTold-left (equations_of later) (c.equations ++ E) s t x)
    | inr x ↦ told (IsTold-right (equations_of later) (c.equations ++ E) s t (IsTold-left c.equations E s t x))
  ];
}) h

-- what is told besides is told in both
pub grown_more : (E F M : Equations) → Follows E F → (X Y : Equations) → X ≡ E ++ M → Y ≡ F ++ M → Follows X Y
grown_more E F M g X Y i j = subst (λ (Z : Equations). Follows Z Y) (sym i) (subst (Follows (E ++ M)) (sym j) (record {
  each = λ {s} {t} m. elim (IsTold-either E M s t m) [
    | inl x ↦ Equal-follows (record { each = λ {s} {t} n. told (IsTold-left F M s t n) }) (g.each x)
    | inr x ↦ told (IsTold-right F M s t x)
  ];
}))

module _ (p : Program) (w next : ℕ) (around later : List Content) where
  pub tells_later : (b c : Content) (n : ℕ) (body : List Atom) (ls : List Label) (b2 : Content) (left : List (Name × Atom)) (x : Tells p w next around b n body ls b2 left)
      → Follows (equations_of around ++ b.equations) (equations_of later ++ c.equations) → ((M : Equations) → b2.equations ≡ b.equations ++ M → IsConsistent (equations_of later ++ (c.equations ++ M)))
      → TellsLater p w next later b c n body ls b2 left (outcomes p w next around b n body ls b2 left x)
  tells_later _ c _ _ _ _ _ (finishes b n) g h = record { more = []; was = sym (append-nil b.equations); after = c; is = sym (append-nil c.equations); tells = finishes c n; same = refl }
  tells_later _ c _ _ _ _ _ (leaves b n a rest ls b2 left x) g h =
      let y : TellsLater p w next later b c (n + 1) rest ls b2 left (outcomes p w next around b (n + 1) rest ls b2 left x) = tells_later b c (n + 1) rest ls b2 left x g h in
      record { more = y.more; was = y.was; after = y.after; is = y.is; tells = leaves c n a rest ls y.after left y.tells; same = y.same }
  tells_later _ c _ _ _ _ _ (tells r b n a s t rest ls b2 left guard makes x) g h =
      let i : Name = record { worker = w; number = n } in
      let z : TellsAlike p w next r i a b (telling s t b) around later = alike p w next i around later b (telling s t b) r a guard makes in
      let one : z.more ≡ record { left = s; right = t } ∷ [] = same_rest b.equations z.more (record { left = s; right = t } ∷ []) (sym (ap (λ (k : Content). k.equations) z.is)) in
      let m : ToldMore p w next around (telling s t b) b2 = told_more p w next around (telling s t b) (n + 1) rest ls b2 left x in
      let was : b2.equations ≡ b.equations ++ (record { left = s; right = t } ∷ m.more) = m.equations ∙ append_assoc b.equations (record { left = s; right = t } ∷ []) m.more in
      let here : Makes (Allows p) p next (by w r (Place.Goal i) None) (lone later c i a) (becomes (with_more c z.more) no_goals 0) =
      z.also c (less later c (record { left = s; right = t } ∷ m.more) (h (record { left = s; right = t } ∷ m.more) was)) g in
      let told_here : Makes (Allows p) p next (by w r (Place.Goal i) None) (lone later c i a) (becomes (telling s t c) no_goals 0) =
      subst (λ (E : Equations). Makes (Allows p) p next (by w r (Place.Goal i) None) (lone later c i a) (becomes (with_more c E) no_goals 0)) one here in
      let y : TellsLater p w next later (telling s t b) (telling s t c) (n + 1) rest ls b2 left (outcomes p w next around (telling s t b) (n + 1) rest ls b2 left x) = tells_later (telling s t b) (telling s t c) (n + 1) rest ls b2 left x
      (grown_more (equations_of around ++ b.equations) (equations_of later ++ c.equations) (record { left = s; right = t } ∷ []) g (equations_of around ++ (telling s t b).equations) (equations_of later ++ (telling s t c).equations)
      (sym (append_assoc (equations_of around) b.equations (record { left = s; right = t } ∷ []))) (sym (append_assoc (equations_of later) c.equations (record { left = s; right = t } ∷ []))))
      (λ M e. further later c (record { left = s; right = t } ∷ []) M (h (record { left = s; right = t } ∷ M) (e ∙ append_assoc b.equations (record { left = s; right = t } ∷ []) M))) in
      record {
        more = record { left = s; right = t } ∷ y.more;
        was = y.was ∙ append_assoc b.equations (record { left = s; right = t } ∷ []) y.more;
        after = y.after;
        is = y.is ∙ append_assoc c.equations (record { left = s; right = t } ∷ []) y.more;
        tells = tells r c n a s t rest ls y.after left guard told_here y.tells;
        same = ap (λ (os : List Bool). true ∷ os) y.same;
      }
  tells_later _ c _ _ _ _ _ (holds r b n a rest ls b2 left guard makes x) g h =
      let i : Name = record { worker = w; number = n } in
      let z : TellsAlike p w next r i a b b around later = alike p w next i around later b b r a guard makes in
      let none : z.more ≡ [] = same_rest b.equations z.more [] (sym (ap (λ (k : Content). k.equations) z.is) ∙ sym (append-nil b.equations)) in
      let m : ToldMore p w next around b b2 = told_more p w next around b (n + 1) rest ls b2 left x in
      let here : Makes (Allows p) p next (by w r (Place.Goal i) None) (lone later c i a) (becomes (with_more c z.more) no_goals 0) = z.also c (less later c m.more (h m.more m.equations)) g in
      let holds_here : Makes (Allows p) p next (by w r (Place.Goal i) None) (lone later c i a) (becomes c no_goals 0) =
      subst (λ (k : Content). Makes (Allows p) p next (by w r (Place.Goal i) None) (lone later c i a) (becomes k no_goals 0)) (λ j. record c { equations = (ap (λ (E : Equations). c.equations ++ E) none ∙ append-nil c.equations) j }) here in
      let y : TellsLater p w next later b c (n + 1) rest ls b2 left (outcomes p w next around b (n + 1) rest ls b2 left x) = tells_later b c (n + 1) rest ls b2 left x g h in
      record { more = y.more; was = y.was; after = y.after; is = y.is; tells = holds r c n a rest ls y.after left guard holds_here y.tells; same = ap (λ (os : List Bool). false ∷ os) y.same }
