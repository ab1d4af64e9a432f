-- A further variable that isn't bound outside isn't bound inside.
use Rattle.constraint_laws.specs.Touched.{IsAmong}
use Rattle.std.proofs.Common.{◌≡◌, List, [], ◌∷◌, ◌++◌, Some, refl, sym, ◌∙◌, ap, subst, ◌⊎◌, inl, inr, append_assoc}
use Rattle.akl_terms.specs.declared.name.Name.{Name}
use Rattle.akl_terms.specs.declared.name.Var.{Var}
use Rattle.akl_terms.specs.declared.program.Program.{Program}
use Rattle.akl_terms.specs.declared.program.Query.{Query}
use Rattle.akl_terms.specs.Tree.{Tree, variable, Head, head_of}
use Rattle.akl_terms.specs.Equal.{Equations, IsTold, Equal, told, same, turned, joined, IsConsistent, IsStructured}
use Rattle.akl_terms.proofs.EqualLaws.{Equal-follows, IsConsistent-follows, IsTold-left}
use Rattle.akl_model.specs.declared.item.Item.{Item}
use Rattle.akl_model.specs.declared.label.Rule.{Rule}
use Rattle.akl_model.specs.declared.label.Label.{Label}
use Rattle.akl_model.specs.Config.{Content, Config, Found, equations_of, whole, box_at}
use Rattle.akl_model.specs.Derivations.{Derives, Replays}
use Rattle.akl_model.proofs.Options.{some_value}
use Rattle.reading_laws.specs.Closed.{IsClosed, by_term, by_itself, AreClosed}
use Rattle.reading_laws.specs.Unchanged.{Unchanged, path_to, StandAlong, ClosedAlong, AllOver, AreEnough}
use Rattle.constraint_laws.proofs.Stands.{structured_stands}
use Rattle.reading_laws.proofs.Inner.{bound_by}
use Rattle.reading_laws.proofs.Path.{over_wider, tells_wider}
use Rattle.reading_laws.proofs.Steps.{path_whole}
use Rattle.reading_laws.specs.Boxes.{EndUnchanged, BoxesUnchanged, StaysUnbound}
use Rattle.step_laws.specs.Bound.{outermost_equations}
use Rattle.reading_laws.proofs.Boxes.{enough_unbound}
use Rattle.constraint_laws.specs.Bound.{IsNewlyBound}
use Rattle.constraint_laws.specs.Growth.{IsOver, TellsOver}
use Rattle.constraint_laws.proofs.Decided.{structured_or}
use Rattle.constraint_laws.proofs.Beside.{left_follows}

module _ (reads : List Var) (x : Var) where
  -- unstructured, or with a term over the list
  abbrev Level : Equations → Type 0
  Level E = (IsStructured E x → ⊥) ⊎ ((t : Tree) × (h : Head) × Equal E (variable x) t × (head_of t ≡ Some h) × IsOver (λ x. IsAmong x reads) t)

  next_level : (E C : Equations) → Level E → AreClosed (λ x. IsAmong x reads) E → AreClosed (λ x. IsAmong x reads) (E ++ C) → TellsOver (λ x. IsAmong x reads) C → IsConsistent (E ++ C) → Level (E ++ C)
  next_level E C (inr w) a b o c = inr (w.0, w.1, Equal-follows (left_follows E C) w.2, w.3, w.4)
  next_level E C (inl n) a b o c = on (structured_or (E ++ C) x)
    where
      on : IsStructured (E ++ C) x ⊎ (IsStructured (E ++ C) x → ⊥) → Level (E ++ C)
      on (inr m) = inl m
      on (inl w) = at (b.each k.0 k.1)
        where
          k : (p : Var) × IsAmong p reads × Equal E (variable x) (variable p)
          k = bound_by (λ x. IsAmong x reads) E C a o c x (record { unstructured = n; told = inl w })

          e : Equal (E ++ C) (variable x) (variable k.0)
          e = Equal-follows (left_follows E C) k.2

          at : IsClosed (λ x. IsAmong x reads) (E ++ C) k.0 → Level (E ++ C)
          at (by_term {t = t} {h = h} f i u) = inr (t, h, joined e f, i, u)
          at (by_itself m) = absurd (m (w.0, w.1, joined (turned e) w.2, w.3))

  closed_too : (E : Equations) → Level E → AreClosed (λ x. IsAmong x reads) E → AreClosed (λ y. IsAmong y (x ∷ reads)) E
  closed_too E l a = record { each = λ y r. elim r [ inl e ↦ subst (IsClosed (λ y. IsAmong y (x ∷ reads)) E) (sym e) (own l) | inr i ↦ wider (a.each y i) ] }
    where
      more : (t : Tree) → IsOver (λ x. IsAmong x reads) t → IsOver (λ y. IsAmong y (x ∷ reads)) t
      more t o = over_wider (λ x. IsAmong x reads) (λ y. IsAmong y (x ∷ reads)) (λ y i. inr i) t o

      own : Level E → IsClosed (λ y. IsAmong y (x ∷ reads)) E x
      own (inl n) = by_itself n
      own (inr w) = by_term w.2 w.3 (more w.0 w.4)

      wider : {y : Var} → IsClosed (λ x. IsAmong x reads) E y → IsClosed (λ y. IsAmong y (x ∷ reads)) E y
      wider (by_term {t = t} e h o) = by_term e h (more t o)
      wider (by_itself n) = by_itself n

  levels : (E S : Equations) (bs : List Content) (Ds : List Equations) → StandAlong E S bs Ds → Level S → AreClosed (λ x. IsAmong x reads) S → ClosedAlong (λ x. IsAmong x reads) S Ds → AllOver (λ x. IsAmong x reads) Ds → IsConsistent (E ++ equations_of bs)
      → ClosedAlong (λ y. IsAmong y (x ∷ reads)) S Ds
  levels E S [] [] w l r a o c = tt
  levels E S [] (D ∷ Ds) w l r a o c = absurd w
  levels E S (b ∷ bs) [] w l r a o c = absurd w
  levels E S (b ∷ bs) (D ∷ Ds) w l r a o c =
      let d : IsConsistent ((E ++ b.equations) ++ equations_of bs) = subst IsConsistent (sym (append_assoc E b.equations (equations_of bs))) c in
      let m : Level (S ++ D) = next_level S D l r a.0 o.0 (w.0.back (IsConsistent-follows (left_follows (E ++ b.equations) (equations_of bs)) d)) in
      (closed_too (S ++ D) m a.0, levels (E ++ b.equations) (S ++ D) bs Ds w.1 m a.0 a.1 o.1 d)

  wider_all : (Ds : List Equations) → AllOver (λ x. IsAmong x reads) Ds → AllOver (λ y. IsAmong y (x ∷ reads)) Ds
  wider_all [] o = tt
  wider_all (D ∷ Ds) o = (tells_wider (λ x. IsAmong x reads) (λ y. IsAmong y (x ∷ reads)) (λ y r. inr r) D o.0, wider_all Ds o.1)

  along : (xs : List Content) (root : Equations) (own : List Equations) → StandAlong [] [] xs (root ∷ own) → IsConsistent (equations_of xs) → AllOver (λ x. IsAmong x reads) own
      → ((b : Content) (bs : List Content) → xs ≡ b ∷ bs → IsStructured b.equations x → ⊥) → ClosedAlong (λ x. IsAmong x reads) [] (root ∷ own) → ClosedAlong (λ y. IsAmong y (x ∷ reads)) [] (root ∷ own)
  along [] root own w c o n a = absurd w
  along (b ∷ bs) root own w c o n a =
      let d : IsConsistent b.equations = IsConsistent-follows (left_follows b.equations (equations_of bs)) c in
      let free : Level root = inl (λ s. n b bs refl (structured_stands root b.equations (record { stands = w.0; consistent = w.0.back d }) x s)) in
      (closed_too root free a.0, levels b.equations root bs own w.1 free a.0 a.1 o c)

module _ (rules : List Rule) (p : Program) (q : Query) (journal : List Label) (c : Config) (ls : List Label) (d : Config) (r : Replays rules p q journal c) (w : Derives rules p c ls d)
    (n : Name) (f g : Found) (reads : List Var) (e : box_at n c.roots ≡ Some f) (i : box_at n d.roots ≡ Some g) (h : IsConsistent (whole f)) (u : BoxesUnchanged rules p c ls d w f) (a : AreEnough reads f)
    (b : (x : Var) → IsAmong x reads → EndUnchanged rules p c ls d w (outermost_equations f) x) (x : Var) (v : Unchanged rules p c ls d w (Item.Binding x)) (bound : IsNewlyBound (whole f) (whole g) x) where
  whole_path : IsConsistent (equations_of (path_to f))
  whole_path = subst IsConsistent (sym (path_whole f)) h

  low : (b : Content) (bs : List Content) → path_to f ≡ b ∷ bs → IsStructured b.equations x → ⊥
  low b bs k z = bound.unstructured (z.0, z.1, Equal-follows (record { each = λ {s} {t} m. told (subst (λ (E : Equations). IsTold E s t) (ap equations_of (sym k) ∙ path_whole f) (IsTold-left b.equations (equations_of bs) s t m)) }) z.2, z.3)

  with_it : AreEnough (x ∷ reads) f
  with_it = record { root = a.root; own = a.own; stands = a.stands; all = wider_all reads x a.own a.all; closed = along reads x (path_to f) a.root a.own a.stands whole_path a.all low a.closed }

  alike : StaysUnbound (λ y. IsAmong y (x ∷ reads)) d n f
  alike = enough_unbound rules p q journal c ls d r w n f (x ∷ reads) e u with_it (λ y k. elim k [ inl z ↦ subst (EndUnchanged rules p c ls d w (outermost_equations f)) (sym z) (inr (x, same, v)) | inr z ↦ b y z ])

  pub not_bound : ⊥
  not_bound = (alike.spares h).unbound x (inl refl) (subst (λ (k : Found). IsNewlyBound (whole f) (whole k) x) (some_value (sym i ∙ alike.is)) bound)
