-- Marks of variables over a run.
use Rattle.std.proofs.Common.{◌≡◌, ℕ, ◌+◌, ◌<◌, ◌≤◌, List, [], ◌∷◌, ◌++◌, length, refl, sym, ap, subst, ◌⊎◌, inl, inr, arith, append_assoc, append-nil}
use Rattle.std.proofs.lemmas.List.{length-append}
use Rattle.akl_terms.specs.declared.name.Name.{Name}
use Rattle.akl_terms.specs.declared.name.Var.{Var}
use Rattle.akl_terms.specs.declared.program.Program.{Program}
use Rattle.akl_terms.specs.declared.program.Query.{Query}
use Rattle.constraint_laws.specs.Touched.{IsAmong}
use Rattle.akl_model.specs.declared.item.Item.{Item}
use Rattle.akl_model.specs.declared.label.Rule.{Rule}
use Rattle.akl_model.specs.declared.label.Label.{Label}
use Rattle.akl_model.specs.Config.{Config}
use Rattle.akl_model.specs.Changes.{Binds}
use Rattle.akl_model.specs.Derivations.{Applies, Derives, Replays}
use Rattle.akl_model.specs.Instances.{start}
use Rattle.akl_model.proofs.Results.{Derives-one, Applies-one}
use Rattle.step_laws.specs.Likeness.{IsOld}
use Rattle.plan_laws.proofs.StampLaws.{last_or}
use Rattle.plan_laws.proofs.Replayed.{replay_further}
use Rattle.reading_laws.specs.Ends.{IsEndAt, SparesEnd, HasEnds}
use Rattle.reading_laws.specs.Marks.{BindsEndAt, IsMark}
use Rattle.reading_laws.specs.Unchanged.{Unchanged}
use Rattle.reading_laws.proofs.Ends.{spared}

-- a label's number is within its journal
within : (xs ys : List Label) (k : Label) (zs : List Label) → xs ≡ ys ++ k ∷ zs → length ys + 1 ≤ length xs
within xs ys k zs e =
    let a : length xs ≡ length (ys ++ k ∷ zs) = ap length e in
    let b : length (ys ++ k ∷ zs) ≡ length ys + length (k ∷ zs) = length-append ys (k ∷ zs) in
    omega arith

pub last_mark : (rules : List Rule) (p : Program) (q : Query) (journal : List Label) (x : Var) → IsMark rules p q journal x (length journal)
last_mark rules p q journal x = record {
  none_later = λ n h w.
      let a : length w.binds.earlier + 1 ≤ length journal = within journal w.binds.earlier w.binds.label w.binds.later w.binds.is_journal in
      let b : n ≡ length w.binds.earlier + 1 = w.binds.is_number in
      absurd (omega arith);
}

-- one label more, which doesn't bind it as an end
one_more : (rules : List Rule) (p : Program) (q : Query) (journal : List Label) (c : Config) (l : Label) (d : Config) (x : Var) (k : ℕ) → Replays rules p q journal c → Applies rules p c l d
    → ((n : Name) → IsEndAt c n x → Binds c d n x → ⊥) → IsMark rules p q journal x k → IsMark rules p q (journal ++ l ∷ []) x k
one_more rules p q journal c l d x k r a spares m = record {
  none_later = λ n h w. on n h w (last_or journal l w.binds.earlier w.binds.label w.binds.later w.binds.is_journal);
}
  where
    on : (n : ℕ) → k < n → (w : BindsEndAt rules p q (journal ++ l ∷ []) x n)
        → ((journal ≡ w.binds.earlier) × (l ≡ w.binds.label)) ⊎ ((rest : List Label) × (journal ≡ w.binds.earlier ++ w.binds.label ∷ rest)) → ⊥
    on n h w (inr v) = m.none_later n h (record {
      binds = record {
        earlier = w.binds.earlier;
        label = w.binds.label;
        later = v.0;
        is_journal = v.1;
        is_number = w.binds.is_number;
        before = w.binds.before;
        afterwards = w.binds.afterwards;
        derived = w.binds.derived;
        applies = w.binds.applies;
        changes = w.binds.changes;
      };
      ends = w.ends;
    })
    on n h w (inl v) =
        let b : c ≡ w.binds.before = Derives-one rules p (start p q) c w.binds.before journal r.derives (subst (λ (j : List Label). Derives rules p (start p q) j w.binds.before) (sym v.0) w.binds.derived.derives) in
        let z : Applies rules p c l w.binds.afterwards = subst (λ (u : Config). Applies rules p u l w.binds.afterwards) (sym b) (subst (λ (u : Label). Applies rules p w.binds.before u w.binds.afterwards) (sym v.1) w.binds.applies) in
        let e : d ≡ w.binds.afterwards = Applies-one a z in
        spares w.binds.changes.0 (subst (λ (u : Config). IsEndAt u w.binds.changes.0 x) (sym b) w.ends)
        (subst (λ (u : Config). Binds u d w.binds.changes.0 x) (sym b) (subst (λ (u : Config). Binds w.binds.before u w.binds.changes.0 x) (sym e) w.binds.changes.1))

pub old_mark : (rules : List Rule) (p : Program) (q : Query) (journal : List Label) (c : Config) (ls : List Label) (d : Config) (x : Var) (k : ℕ) → Replays rules p q journal c → (w : Derives rules p c ls d)
    → SparesEnd rules p c ls d w x → IsMark rules p q journal x k → IsMark rules p q (journal ++ ls) x k
old_mark rules p q journal c [] d x k r w s m = subst (λ (js : List Label). IsMark rules p q js x k) (sym (append-nil journal)) m
old_mark rules p q journal c (l ∷ ls) d x k r w s m = subst (λ (js : List Label). IsMark rules p q js x k) (append_assoc journal (l ∷ []) ls)
    (old_mark rules p q (journal ++ l ∷ []) w.0 ls d x k (replay_further rules p q journal c l w.0 r w.1) w.2 s.1 (one_more rules p q journal c l w.0 x k r w.1 s.0 m))

-- labels behind a mark spare the variable
spares_since : (rules : List Rule) (p : Program) (q : Query) (journal further : List Label) (c d : Config) (x : Var) (k : ℕ) → Replays rules p q journal c → (w : Derives rules p c further d)
    → IsMark rules p q (journal ++ further) x k → k ≤ length journal → SparesEnd rules p c further d w x
spares_since rules p q journal [] c d x k r w m h = tt
spares_since rules p q journal (l ∷ ls) c d x k r w m h = (
  λ n e y. m.none_later (length journal + 1) (omega arith) (record {
    binds = record { earlier = journal; label = l; later = ls; is_journal = refl; is_number = refl; before = c; afterwards = w.0; derived = r; applies = w.1; changes = (n, y) };
    ends = e;
  }),
  spares_since rules p q (journal ++ l ∷ []) ls w.0 d x k (replay_further rules p q journal c l w.0 r w.1) w.2 (subst (λ (js : List Label). IsMark rules p q js x k) (sym (append_assoc journal (l ∷ []) ls)) m)
      (let e : length (journal ++ l ∷ []) ≡ length journal + length (l ∷ []) = length-append journal (l ∷ []) in omega arith),
)

pub marks : (rules : List Rule) (p : Program) (q : Query) (journal further : List Label) (c d : Config) → Replays rules p q journal c → (w : Derives rules p c further d)
    → (list : List Var) → ((x : Var) → IsAmong x list → IsOld c x.frame) → HasEnds c list → ((x : Var) → IsAmong x list → (k : ℕ) × IsMark rules p q (journal ++ further) x k × (k ≤ length journal))
    → ((x : Var) → IsAmong x list → Unchanged rules p c further d w (Item.Binding x)) × HasEnds d list
marks rules p q journal further c d r w list old ends m = spared rules p q journal c further d r w list old ends (λ x i. spares_since rules p q journal further c d x (m x i).0 r w (m x i).1 (m x i).2)
