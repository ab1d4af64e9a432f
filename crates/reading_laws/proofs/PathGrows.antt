-- Steps on a path of boxes bind no listed variable in the innermost, whatever frames come to the boxes.
use Rattle.std.proofs.Common.{◌≡◌, List, [], ◌∷◌, ◌++◌, refl, sym, ◌∙◌, ap, subst, ◌⊎◌, inl, inr, append_assoc}
use Rattle.std.specs.Prelude.{⊤}
use Rattle.akl_terms.specs.declared.name.Name.{Name}
use Rattle.akl_terms.specs.declared.name.Var.{Var}
use Rattle.akl_terms.specs.Tree.{Tree, Trees, none, more, variable, integer, port, symbol}
use Rattle.akl_terms.specs.Equal.{Equations, IsTold, told, IsConsistent, IsStructured}
use Rattle.akl_terms.specs.Standing.{StandFor}
use Rattle.akl_terms.specs.Touching.{IsLocal}
use Rattle.akl_terms.proofs.EqualLaws.{IsTold-left, IsTold-right, IsTold-either}
use Rattle.akl_terms.proofs.StandingLaws.{StandFor-back}
use Rattle.constraint_laws.specs.StandingGrows.{AreToldIn}
use Rattle.constraint_laws.proofs.Stands.{structured_stands}
use Rattle.constraint_laws.proofs.StandsGrow.{stands_with_more}
use Rattle.akl_model.specs.Config.{Content, equations_of}
use Rattle.akl_model.proofs.QuietGrows.{IsLocal-right}
use Rattle.akl_model.proofs.Scoped.{IsIn-either}
use Rattle.akl_model.proofs.ScopesAlong.{local_in, in_local}
use Rattle.constraint_laws.specs.Growth.{IsOver, AreOver, TellsOver}
use Rattle.reading_laws.specs.Closed.{IsClosed, by_term, by_itself, AreClosed, Spares}
use Rattle.reading_laws.proofs.Inner.{Within, within_spares, stays_closed}
use Rattle.reading_laws.proofs.Path.{over_wider, tells_wider, tells_both, spares_fewer, within_more, regroup, regroup_two, nil_right, foreign_unstructured, seen_spares, spares_itself}
use Rattle.reading_laws.proofs.StandIn.{told_left, told_more, told_follows, spares_stands, stands_grown}

mutual
  over_joined : (P Q S : Var → Type 0) → ((x : Var) → P x → Q x → S x) → (t : Tree) → IsOver P t → IsOver Q t → IsOver S t
  over_joined P Q S f (variable x) h k = f x h k
  over_joined P Q S f (integer z) h k = tt
  over_joined P Q S f (port q) h k = tt
  over_joined P Q S f (symbol g ts) h k = all_joined P Q S f ts h k

  all_joined : (P Q S : Var → Type 0) → ((x : Var) → P x → Q x → S x) → (ts : Trees) → AreOver P ts → AreOver Q ts → AreOver S ts
  all_joined P Q S f none h k = tt
  all_joined P Q S f (more t ts) h k = (over_joined P Q S f t h.0 k.0, all_joined P Q S f ts h.1 k.1)

tells_joined : (P Q S : Var → Type 0) → ((x : Var) → P x → Q x → S x) → (E : Equations) → TellsOver P E → TellsOver Q E → TellsOver S E
tells_joined P Q S f E o u = record { each = λ s t m. (over_joined P Q S f s (o.each s t m).0 (u.each s t m).0, over_joined P Q S f t (o.each s t m).1 (u.each s t m).1) }

-- each box on a path has equations over its frames and those around, which are apart
abbrev pub Placed : List Name → List Content → Type 0
Placed fs [] = ⊤
Placed fs (b ∷ bs) = TellsOver (IsLocal (b.frames ++ fs)) b.equations × ((x : Var) → IsLocal b.frames x → IsLocal fs x → ⊥) × Placed (b.frames ++ fs) bs

-- equations that stand in the place of a box's own: the first ones are over the variables, and those that were told since over them and the box's own frames
pub record Instead (R : Var → Type 0) (b : Content) : Type 0 where
  pub first : Equations
  pub since : Equations
  pub over : TellsOver R first
  pub is_told : AreToldIn since b.equations
  pub own : TellsOver (λ x. R x ⊎ IsLocal b.frames x) since

-- the variables are closed down to each box, in what stands for the equations down to it
abbrev pub ClosedInside : (Var → Type 0) → Equations → Equations → List Content → Type 0
ClosedInside R E S [] = ⊤
ClosedInside R E S (b ∷ bs) = (i : Instead R b) × AreClosed R (S ++ (i.first ++ i.since)) × StandFor (IsTold (S ++ (i.first ++ i.since))) (IsTold (E ++ b.equations)) × IsConsistent (E ++ b.equations)
    × ClosedInside R (E ++ b.equations) (S ++ (i.first ++ i.since)) bs

-- one of the boxes gets more equations, over the frames that it then has, which bind none of the variables in that box and leave it consistent
pub data GrowsOnce (R : Var → Type 0) : Equations → List Content → List Content → Type 0 where
  rests : {E : Equations} {bs : List Content} → GrowsOnce R E bs bs
  gets : {E : Equations} {b d : Content} {bs : List Content} (added : Equations) → d.equations ≡ b.equations ++ added → TellsOver (IsLocal d.frames) added
      → Spares R (E ++ b.equations) (E ++ d.equations) → GrowsOnce R E (b ∷ bs) (d ∷ bs)
  inside : {E : Equations} {b : Content} {bs ds : List Content} → GrowsOnce R (E ++ b.equations) bs ds → GrowsOnce R E (b ∷ bs) (b ∷ ds)

fewer_told : (P : Var → Type 0) (E F G : Equations) → G ≡ E ++ F → TellsOver P G → TellsOver P E
fewer_told P E F G q o = record { each = λ s t m. o.each s t (subst (λ (X : Equations). IsTold X s t) (sym q) (IsTold-left E F s t m)) }

pub inside_consistent : (R : Var → Type 0) (E S : Equations) (bs : List Content) → IsConsistent E → ClosedInside R E S bs → IsConsistent (E ++ equations_of bs)
inside_consistent R E S [] c k = subst IsConsistent (sym (nil_right E)) c
inside_consistent R E S (b ∷ bs) c k = subst IsConsistent (append_assoc E b.equations (equations_of bs)) (inside_consistent R (E ++ b.equations) (S ++ (k.0.first ++ k.0.since)) bs k.3 k.4)

-- from what stands for the equations of a box, S, to what stands for them later, U
module _ (R : Var → Type 0) (F : List Name) (S U : Equations) where
  abbrev Seen : Var → Type 0
  Seen x = R x ⊎ (IsLocal F x → ⊥)

  further : (A B V W : Equations) (fs : List Name) (bs : List Content) → Within Seen S U V W → StandFor (IsTold V) (IsTold A) → StandFor (IsTold W) (IsTold B) → AreToldIn A B → AreToldIn V W → Spares R A B
      → ((x : Var) → IsLocal F x → IsLocal fs x) → Placed fs bs → ClosedInside R A V bs → ClosedInside R B W bs × Spares R (A ++ equations_of bs) (B ++ equations_of bs)
  further A B V W fs [] w old new a v s f l k = (tt, subst (λ (X : Equations). Spares R X (B ++ [])) (sym (nil_right A)) (subst (Spares R A) (sym (nil_right B)) s))
  further A B V W fs (b ∷ bs) w old new a v s f l k =
      let rest : ClosedInside R (B ++ b.equations) (W ++ (k.0.first ++ k.0.since)) bs × Spares R ((A ++ b.equations) ++ equations_of bs) ((B ++ b.equations) ++ equations_of bs)
      = further (A ++ b.equations) (B ++ b.equations) (V ++ (k.0.first ++ k.0.since)) (W ++ (k.0.first ++ k.0.since)) (b.frames ++ fs) bs within k.2 now (told_more A B b.equations a) (told_more V W (k.0.first ++ k.0.since) v) next (λ x m. IsLocal-right b.frames fs x (f x m)) l.2 k.4 in
      ((k.0, stays_closed R (V ++ (k.0.first ++ k.0.since)) (W ++ (k.0.first ++ k.0.since)) kept k.1, now, next.consistent, rest.0), regroup R A B b.equations b.equations (equations_of bs) rest.1)
    where
      seen : (x : Var) → R x ⊎ IsLocal b.frames x → Seen x
      seen x (inl r) = inl r
      seen x (inr m) = inr (λ n. l.1 x m (f x n))

      over : TellsOver Seen (k.0.first ++ k.0.since)
      over = tells_both Seen k.0.first k.0.since (tells_wider R Seen (λ x r. inl r) k.0.first k.0.over) (tells_wider (λ x. R x ⊎ IsLocal b.frames x) Seen seen k.0.since k.0.own)

      within : Within Seen S U (V ++ (k.0.first ++ k.0.since)) (W ++ (k.0.first ++ k.0.since))
      within = within_more Seen S U V W (k.0.first ++ k.0.since) w over (k.2.back k.3)

      kept : Spares R (V ++ (k.0.first ++ k.0.since)) (W ++ (k.0.first ++ k.0.since))
      kept = spares_fewer R Seen (λ x r. inl r) (V ++ (k.0.first ++ k.0.since)) (W ++ (k.0.first ++ k.0.since)) (within_spares Seen S U (V ++ (k.0.first ++ k.0.since)) (W ++ (k.0.first ++ k.0.since)) within)

      now : StandFor (IsTold (W ++ (k.0.first ++ k.0.since))) (IsTold (B ++ b.equations))
      now = stands_grown A B V W (k.0.first ++ k.0.since) b.equations k.2 new a v

      next : Spares R (A ++ b.equations) (B ++ b.equations)
      next = spares_stands R (A ++ b.equations) (B ++ b.equations) (V ++ (k.0.first ++ k.0.since)) (W ++ (k.0.first ++ k.0.since)) k.2 now (told_follows (A ++ b.equations) (B ++ b.equations) (told_more A B b.equations a)) k.3 kept

  -- where a box gets more, and those inside it don't
  from_here : (E G : Equations) → TellsOver (IsLocal F) E → TellsOver (IsLocal F) G → StandFor (IsTold S) (IsTold E) → StandFor (IsTold U) (IsTold G) → AreToldIn E G → AreToldIn S U → Spares R E G → AreClosed R S → IsConsistent E
      → (bs : List Content) → Placed F bs → ClosedInside R E S bs → ClosedInside R G U bs × Spares R (E ++ equations_of bs) (G ++ equations_of bs)
  from_here E G o u old new a v s closed c bs l k = further E G S U F bs (record {
    spares = spares_stands Seen S U E G (StandFor-back old) (StandFor-back new) (told_follows S U v) (old.back c) (seen_spares R F E G u s);
    closed = record { each = λ x r. elim r [ inl h ↦ wider (closed.each x h) | inr h ↦ by_itself (foreign x h) ] };
    to_inner = record { each = told };
    inner_grows = told_follows S U v;
    grown_inner = record { each = told };
    parts = λ p q m. inl m;
    consistent = old.back c;
  }) old new a v s (λ x m. m) l k
    where
      wider : {x : Var} → IsClosed R S x → IsClosed Seen S x
      wider (by_term {t = t} e h i) = by_term e h (over_wider R Seen (λ y r. inl r) t i)
      wider (by_itself n) = by_itself n

      -- what doesn't occur is unstructured in what stands for it too
      foreign : (x : Var) → (IsLocal F x → ⊥) → IsStructured S x → ⊥
      foreign x h i = foreign_unstructured (IsLocal F) E o x h (structured_stands S E (record { stands = old; consistent = old.back c }) x i)

pub path_grows : (R : Var → Type 0) (E S : Equations) (fs : List Name) (bs ds : List Content) → TellsOver (IsLocal fs) E → IsConsistent E → StandFor (IsTold S) (IsTold E) → Placed fs bs → Placed fs ds → ClosedInside R E S bs → GrowsOnce R E bs ds
    → ClosedInside R E S ds × Spares R (E ++ equations_of bs) (E ++ equations_of ds)
path_grows R E S fs bs ds o c st l n k rests = (k, spares_itself R (E ++ equations_of bs) (inside_consistent R E S bs c k))
path_grows R E S fs _ _ o c st l n k (gets {b = b} {d = d} {bs = bs} added q over s) = (
  (
    instead,
    stays_closed R (S ++ (k.0.first ++ k.0.since)) (S ++ (k.0.first ++ (k.0.since ++ added))) kept k.1,
    now,
    s.consistent,
    got.0,
  ),
  regroup R E E b.equations d.equations (equations_of bs) got.1,
)
  where
    outer : TellsOver (IsLocal (d.frames ++ fs)) E
    outer = tells_wider (IsLocal fs) (IsLocal (d.frames ++ fs)) (λ x m. IsLocal-right d.frames fs x m) E o

    was : TellsOver (IsLocal (d.frames ++ fs)) b.equations
    was = fewer_told (IsLocal (d.frames ++ fs)) b.equations added d.equations q n.0

    told_now : AreToldIn b.equations d.equations
    told_now = subst (AreToldIn b.equations) (sym q) (told_left b.equations added)

    -- a variable of the box's old frames that occurs stands in its new ones
    own : (x : Var) → R x ⊎ IsLocal b.frames x → IsLocal (d.frames ++ fs) x → R x ⊎ IsLocal d.frames x
    own x (inl r) m = inl r
    own x (inr i) m = elim (IsIn-either x.frame d.frames fs (local_in (d.frames ++ fs) x m)) [ inl j ↦ inr (in_local d.frames x j) | inr j ↦ absurd (l.1 x i (in_local fs x j)) ]

    since_over : TellsOver (λ x. R x ⊎ IsLocal d.frames x) k.0.since
    since_over = tells_joined (λ x. R x ⊎ IsLocal b.frames x) (IsLocal (d.frames ++ fs)) (λ x. R x ⊎ IsLocal d.frames x) own k.0.since k.0.own (record { each = λ p r m. was.each p r (k.0.is_told.each p r m) })

    instead : Instead R d
    instead = record {
      first = k.0.first;
      since = k.0.since ++ added;
      over = k.0.over;
      is_told = record {
        each = λ p r m. elim (IsTold-either k.0.since added p r m) [
          | inl x ↦ told_now.each p r (k.0.is_told.each p r x)
          | inr x ↦ subst (λ (X : Equations). IsTold X p r) (sym q) (IsTold-right b.equations added p r x)
        ];
      };
      own = tells_both (λ x. R x ⊎ IsLocal d.frames x) k.0.since added since_over (tells_wider (IsLocal d.frames) (λ x. R x ⊎ IsLocal d.frames x) (λ x i. inr i) added over);
    }

    -- what stands for it gets the same
    longer : (S ++ (k.0.first ++ k.0.since)) ++ added ≡ S ++ (k.0.first ++ (k.0.since ++ added))
    longer = append_assoc S (k.0.first ++ k.0.since) added ∙ ap (λ (X : Equations). S ++ X) (append_assoc k.0.first k.0.since added)

    now : StandFor (IsTold (S ++ (k.0.first ++ (k.0.since ++ added)))) (IsTold (E ++ d.equations))
    now = subst (λ (X : Equations). StandFor (IsTold X) (IsTold (E ++ d.equations))) longer
        (subst (λ (X : Equations). StandFor (IsTold ((S ++ (k.0.first ++ k.0.since)) ++ added)) (IsTold X)) (append_assoc E b.equations added ∙ ap (λ (X : Equations). E ++ X) (sym q))
        (stands_with_more (S ++ (k.0.first ++ k.0.since)) (E ++ b.equations) added k.2))

    longer_told : AreToldIn (S ++ (k.0.first ++ k.0.since)) (S ++ (k.0.first ++ (k.0.since ++ added)))
    longer_told = subst (AreToldIn (S ++ (k.0.first ++ k.0.since))) longer (told_left (S ++ (k.0.first ++ k.0.since)) added)

    all_told : AreToldIn (E ++ b.equations) (E ++ d.equations)
    all_told = subst (AreToldIn (E ++ b.equations)) (append_assoc E b.equations added ∙ ap (λ (X : Equations). E ++ X) (sym q)) (told_left (E ++ b.equations) added)

    kept : Spares R (S ++ (k.0.first ++ k.0.since)) (S ++ (k.0.first ++ (k.0.since ++ added)))
    kept = spares_stands R (S ++ (k.0.first ++ k.0.since)) (S ++ (k.0.first ++ (k.0.since ++ added))) (E ++ b.equations) (E ++ d.equations) (StandFor-back k.2) (StandFor-back now) (told_follows (S ++ (k.0.first ++ k.0.since)) (S ++ (k.0.first ++ (k.0.since ++ added))) longer_told) (k.2.back k.3) s

    got : ClosedInside R (E ++ d.equations) (S ++ (k.0.first ++ (k.0.since ++ added))) bs × Spares R ((E ++ b.equations) ++ equations_of bs) ((E ++ d.equations) ++ equations_of bs)
    got = from_here R (d.frames ++ fs) (S ++ (k.0.first ++ k.0.since)) (S ++ (k.0.first ++ (k.0.since ++ added))) (E ++ b.equations) (E ++ d.equations) (tells_both (IsLocal (d.frames ++ fs)) E b.equations outer was)
        (tells_both (IsLocal (d.frames ++ fs)) E d.equations outer n.0) k.2 now all_told longer_told s k.1 k.3 bs n.2 k.4
path_grows R E S fs _ _ o c st l n k (inside {b = b} {bs = bs} {ds = ds} s) =
    let got : ClosedInside R (E ++ b.equations) (S ++ (k.0.first ++ k.0.since)) ds × Spares R ((E ++ b.equations) ++ equations_of bs) ((E ++ b.equations) ++ equations_of ds)
    = path_grows R (E ++ b.equations) (S ++ (k.0.first ++ k.0.since)) (b.frames ++ fs) bs ds
    (tells_both (IsLocal (b.frames ++ fs)) E b.equations (tells_wider (IsLocal fs) (IsLocal (b.frames ++ fs)) (λ x m. IsLocal-right b.frames fs x m) E o) l.0)
    k.3 k.2 l.2 n.2 k.4 s in
    ((k.0, k.1, k.2, k.3, got.0), regroup_two R E E b.equations b.equations (equations_of bs) (equations_of ds) got.1)

-- from a root box down: what stands for its equations needn't be over the variables
abbrev pub ClosedFrom : (Var → Type 0) → Content → List Content → Type 0
ClosedFrom R b bs = (S : Equations) × AreClosed R S × StandFor (IsTold S) (IsTold b.equations) × IsConsistent b.equations × ClosedInside R b.equations S bs

pub root_grows : (R : Var → Type 0) (b : Content) (bs es : List Content) → Placed [] (b ∷ bs) → Placed [] es → ClosedFrom R b bs → GrowsOnce R [] (b ∷ bs) es
    → (d : Content) × (ds : List Content) × (es ≡ d ∷ ds) × ClosedFrom R d ds × Spares R (equations_of (b ∷ bs)) (equations_of (d ∷ ds))
root_grows R b bs _ l n k rests = (b, bs, refl, k, spares_itself R (equations_of (b ∷ bs)) (inside_consistent R b.equations k.0 bs k.3 k.4))
root_grows R b bs _ l n k (gets {d = d} added q over s) = (d, bs, refl, (k.0 ++ added, stays_closed R k.0 (k.0 ++ added) kept k.1, now, s.consistent, got.0), got.1)
  where
    now : StandFor (IsTold (k.0 ++ added)) (IsTold d.equations)
    now = subst (λ (X : Equations). StandFor (IsTold (k.0 ++ added)) (IsTold X)) (sym q) (stands_with_more k.0 b.equations added k.2)

    all_told : AreToldIn b.equations d.equations
    all_told = subst (AreToldIn b.equations) (sym q) (told_left b.equations added)

    kept : Spares R k.0 (k.0 ++ added)
    kept = spares_stands R k.0 (k.0 ++ added) b.equations d.equations (StandFor-back k.2) (StandFor-back now) (told_follows k.0 (k.0 ++ added) (told_left k.0 added)) (k.2.back k.3) s

    got : ClosedInside R d.equations (k.0 ++ added) bs × Spares R (b.equations ++ equations_of bs) (d.equations ++ equations_of bs)
    got = from_here R (d.frames ++ []) k.0 (k.0 ++ added) b.equations d.equations (fewer_told (IsLocal (d.frames ++ [])) b.equations added d.equations q n.0) n.0 k.2 now all_told (told_left k.0 added) s k.1 k.3 bs n.2 k.4
root_grows R b bs _ l n k (inside {ds = ds} s) =
    let got : ClosedInside R b.equations k.0 ds × Spares R (b.equations ++ equations_of bs) (b.equations ++ equations_of ds) = path_grows R b.equations k.0 (b.frames ++ []) bs ds l.0 k.3 k.2 l.2 n.2 k.4 s in
    (b, ds, refl, (k.0, k.1, k.2, k.3, got.0), got.1)
