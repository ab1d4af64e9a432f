-- What is settled of frames, as frames and bindings of a store.
use Rattle.std.proofs.Common.{◌≡◌, ℕ, List, [], ◌∷◌, ◌++◌, Some, None, Bool, true, false, cond, if◌then◌else◌, refl, sym, ap, subst, ◌∙◌, append_assoc, append-nil}
use Rattle.std.specs.Prelude.{nat_lt, ◌==◌, ◌||◌}
use Rattle.std.specs.Map.{keys_of, lookup}
use Rattle.std.specs.List.{AllByRecursion}
use Rattle.std.specs.List.Sorted.{IsStrictlySortedBy}
use Rattle.std.specs.BTreeMap.{insert_entry}
use Rattle.std.specs.Ordering.{nat_cmp, is_eq, is_lt, match_ordering}
use Rattle.std.specs.declared.cmp.Ordering.{Ordering}
use Rattle.std.specs.declared.cmp.Ordering.TheVariants.{Less, Equal, Greater}
use Rattle.std.proofs.lemmas.Cmp.{tied_itself}
use Rattle.akl_terms.specs.declared.name.Name.{Name}
use Rattle.akl_terms.specs.declared.name.Var.{Var}
use Rattle.akl_terms.specs.declared.term.Term.{Term}
use Rattle.akl_terms.specs.Names.{same_name, name_cmp, var_cmp}
use Rattle.name_map.proofs.NameOrder.{name_total, name_exact, name_is}
use Rattle.local_store.specs.declared.frame_bindings.FrameBindings.{FrameBindings}
use Rattle.local_store.specs.Stored.{var_before, named, joined, joins, all_named}
use Rattle.local_store.specs.Kept.{put_at, put_all, bindings_at, owns, of_frame, AreOf, frames_of, bindings_of}
use Rattle.local_store.proofs.EachLeads.{all-both}
use Rattle.local_store.proofs.Orders.{Greater-from_less}

abbrev Entries : Type 0
Entries = List (Name × FrameBindings)

abbrev variable_at : Name → ℕ → Var
variable_at n i = record { frame = n; index = i }

pub above-all : (n m : Name) (ks : List Name) → name_cmp n m ≡ Less → AllByRecursion (λ k. name_cmp m k ≡ Less) ks → AllByRecursion (λ k. name_cmp n k ≡ Less) ks
above-all n m [] less h = tt
above-all n m (k ∷ ks) less h = (name_total.trans n m k less h.0, above-all n m ks less h.1)

-- variables of two frames are in the order of the frames
pub less-by-frame : (x y : Var) → name_cmp x.frame y.frame ≡ Less → var_cmp x y ≡ Less
less-by-frame x y h = rw h refl

not-before : (x y : Var) → name_cmp x.frame y.frame ≡ Greater → var_before x y ≡ false
not-before x y h = rw h refl

is-below : (i j : ℕ) → is_lt (nat_cmp i j) ≡ nat_lt i j
is-below i j = on (nat_lt i j) (i == j)
  where
    on : (k l : Bool) → is_lt (cond k Less (cond l Equal Greater)) ≡ k
    on true l = refl
    on false true = refl
    on false false = refl

-- those of one frame in the order of their indices
before-at : (n : Name) (i j : ℕ) → var_before (variable_at n i) (variable_at n j) ≡ nat_lt i j
before-at n i j = rw (tied_itself name_total n) (is-below i j)

later-of : (n m : Name) (i : ℕ) (bs : List (ℕ × Term)) → name_cmp n m ≡ Less → AllByRecursion (λ b. var_cmp (variable_at n i) b.0 ≡ Less) (of_frame m bs)
later-of n m i [] h = tt
later-of n m i (b ∷ bs) h = (less-by-frame (variable_at n i) (variable_at m b.0) h, later-of n m i bs h)

-- what later frames have binds later variables
pub later : (n : Name) (i : ℕ) (es : Entries) → AllByRecursion (λ m. name_cmp n m ≡ Less) (keys_of es) → AllByRecursion (λ b. var_cmp (variable_at n i) b.0 ≡ Less) (bindings_of es)
later n i [] h = tt
later n i (e ∷ es) h = all-both (λ b. var_cmp (variable_at n i) b.0 ≡ Less) (of_frame e.0 e.1.bindings.items) (bindings_of es) (later-of n e.0 i e.1.bindings.items h.0) (later n i es h.1)

earlier-of : (n m : Name) (i : ℕ) (bs : List (ℕ × Term)) → name_cmp n m ≡ Greater → AllByRecursion (λ b. var_before (variable_at n i) b.0 ≡ false) (of_frame m bs)
earlier-of n m i [] h = tt
earlier-of n m i (b ∷ bs) h = (not-before (variable_at n i) (variable_at m b.0) h, earlier-of n m i bs h)

joined-past : (ls rest : List (Var × Term)) (x : Var) (t : Term) → AllByRecursion (λ b. var_before x b.0 ≡ false) ls → joined (ls ++ rest) x t ≡ ls ++ joined rest x t
joined-past [] rest x t h = refl
joined-past (b ∷ ls) rest x t h = rw h.0 (ap (λ (l : List (Var × Term)). b ∷ l) (joined-past ls rest x t h.1))

joined-in_frame : (n : Name) (i : ℕ) (t : Term) (bs : List (ℕ × Term)) (rest : List (Var × Term)) → AllByRecursion (λ b. var_cmp (variable_at n i) b.0 ≡ Less) rest
    → joined (of_frame n bs ++ rest) (variable_at n i) t ≡ of_frame n (put_at bs i t) ++ rest
joined-in_frame n i t [] [] h = refl
joined-in_frame n i t [] (r ∷ rest) h = rw h.0 refl
joined-in_frame n i t (b ∷ bs) rest h = on (var_before (variable_at n i) (variable_at n b.0)) (nat_lt i b.0) (before-at n i b.0) (joined-in_frame n i t bs rest h)
  where
    on : (k l : Bool) → k ≡ l → joined (of_frame n bs ++ rest) (variable_at n i) t ≡ of_frame n (put_at bs i t) ++ rest
        → (if k then (variable_at n i, t) ∷ (variable_at n b.0, b.1) ∷ of_frame n bs ++ rest else (variable_at n b.0, b.1) ∷ joined (of_frame n bs ++ rest) (variable_at n i) t)
        ≡ of_frame n (if l then (i, t) ∷ b ∷ bs else b ∷ put_at bs i t) ++ rest
    on true true e g = refl
    on false false e g = ap (λ (l : List (Var × Term)). (variable_at n b.0, b.1) ∷ l) g
    on true false e g = cc
    on false true e g = cc

none-there : (n : Name) (es : Entries) → AllByRecursion (λ m. name_cmp n m ≡ Less) (keys_of es) → lookup (same_name n) es ≡ None
none-there n [] h = refl
none-there n (e ∷ es) h = subst (λ (k : Bool). cond k (Some e.1) (lookup (same_name n) es) ≡ None) (sym (ap is_eq h.0) ∙ name_is n e.0) (none-there n es h.1)

-- the bindings where these are those of one frame
abbrev with_at : Entries → Name → List (ℕ × Term) → List (Var × Term)
with_at [] n bs = of_frame n bs ++ []
with_at (e ∷ es) n bs = match_ordering (name_cmp n e.0) (of_frame n bs ++ bindings_of (e ∷ es)) (of_frame e.0 bs ++ bindings_of es) (of_frame e.0 e.1.bindings.items ++ with_at es n bs)

with_at-insert : (es : Entries) (n : Name) (f : FrameBindings) → bindings_of (insert_entry name_cmp es n f) ≡ with_at es n f.bindings.items
with_at-insert [] n f = refl
with_at-insert (e ∷ es) n f = on (name_cmp n e.0) (with_at-insert es n f)
  where
    on : (o : Ordering) → bindings_of (insert_entry name_cmp es n f) ≡ with_at es n f.bindings.items
        → bindings_of (match_ordering o ((n, f) ∷ e ∷ es) ((e.0, f) ∷ es) (e ∷ insert_entry name_cmp es n f))
        ≡ match_ordering o (of_frame n f.bindings.items ++ bindings_of (e ∷ es)) (of_frame e.0 f.bindings.items ++ bindings_of es) (of_frame e.0 e.1.bindings.items ++ with_at es n f.bindings.items)
    on Less g = refl
    on Equal g = refl
    on Greater g = ap (λ (l : List (Var × Term)). of_frame e.0 e.1.bindings.items ++ l) g

with_at-same : (es : Entries) (n : Name) → IsStrictlySortedBy name_cmp (keys_of es) → with_at es n (bindings_at (lookup (same_name n) es)) ≡ bindings_of es
unfolding IsStrictlySortedBy
with_at-same [] n h = refl
with_at-same (e ∷ es) n h =
    subst (λ (k : Bool). with_at (e ∷ es) n (bindings_at (cond k (Some e.1) (lookup (same_name n) es))) ≡ bindings_of (e ∷ es)) (name_is n e.0) (on (name_cmp n e.0) refl (with_at-same es n h.1))
  where
    on : (o : Ordering) → name_cmp n e.0 ≡ o → with_at es n (bindings_at (lookup (same_name n) es)) ≡ bindings_of es
        → match_ordering o (of_frame n (bindings_at (cond (is_eq o) (Some e.1) (lookup (same_name n) es))) ++ bindings_of (e ∷ es))
        (of_frame e.0 (bindings_at (cond (is_eq o) (Some e.1) (lookup (same_name n) es))) ++ bindings_of es)
        (of_frame e.0 e.1.bindings.items ++ with_at es n (bindings_at (cond (is_eq o) (Some e.1) (lookup (same_name n) es)))) ≡ bindings_of (e ∷ es)
    on Less q g = rw (none-there n es (above-all n e.0 (keys_of es) q h.0)) refl
    on Equal q g = refl
    on Greater q g = ap (λ (l : List (Var × Term)). of_frame e.0 e.1.bindings.items ++ l) g

with_at-joined : (es : Entries) (n : Name) (i : ℕ) (t : Term) (bs : List (ℕ × Term)) → IsStrictlySortedBy name_cmp (keys_of es) → joined (with_at es n bs) (variable_at n i) t ≡ with_at es n (put_at bs i t)
unfolding IsStrictlySortedBy
with_at-joined [] n i t bs h = joined-in_frame n i t bs [] tt
with_at-joined (e ∷ es) n i t bs h = on (name_cmp n e.0) refl (with_at-joined es n i t bs h.1)
  where
    on : (o : Ordering) → name_cmp n e.0 ≡ o → joined (with_at es n bs) (variable_at n i) t ≡ with_at es n (put_at bs i t)
        → joined (match_ordering o (of_frame n bs ++ bindings_of (e ∷ es)) (of_frame e.0 bs ++ bindings_of es) (of_frame e.0 e.1.bindings.items ++ with_at es n bs)) (variable_at n i) t
        ≡ match_ordering o (of_frame n (put_at bs i t) ++ bindings_of (e ∷ es)) (of_frame e.0 (put_at bs i t) ++ bindings_of es) (of_frame e.0 e.1.bindings.items ++ with_at es n (put_at bs i t))
    on Less q g = joined-in_frame n i t bs (bindings_of (e ∷ es)) (later n i (e ∷ es) (q, above-all n e.0 (keys_of es) q h.0))
    on Equal q g =
        let same : n ≡ e.0 = name_exact n e.0 q in
        subst (λ (m : Name). joined (of_frame m bs ++ bindings_of es) (variable_at n i) t ≡ of_frame m (put_at bs i t) ++ bindings_of es) same
        (joined-in_frame n i t bs (bindings_of es) (later n i es (subst (λ (m : Name). AllByRecursion (λ k. name_cmp m k ≡ Less) (keys_of es)) (sym same) h.0)))
    on Greater q g = joined-past (of_frame e.0 e.1.bindings.items) (with_at es n bs) (variable_at n i) t (earlier-of n e.0 i e.1.bindings.items q)
        ∙ ap (λ (l : List (Var × Term)). of_frame e.0 e.1.bindings.items ++ l) g

of-frame : (n : Name) (x : Var) → x.frame ≡ n → x ≡ variable_at n x.index
of-frame n x e = λ i. record { frame = e i; index = x.index }

with_at-joins : (cs : List (Var × Term)) (es : Entries) (n : Name) (bs : List (ℕ × Term)) → IsStrictlySortedBy name_cmp (keys_of es) → AreOf n cs → joins (with_at es n bs) cs ≡ with_at es n (put_all bs cs)
with_at-joins [] es n bs h of = refl
with_at-joins (c ∷ cs) es n bs h of =
    ap (λ (l : List (Var × Term)). joins l cs) (ap (λ (x : Var). joined (with_at es n bs) x c.1) (of-frame n c.0 of.0) ∙ with_at-joined es n c.0.index c.1 bs h) ∙ with_at-joins cs es n (put_at bs c.0.index c.1) h of.1

-- the frames where one is the store's own, or isn't
abbrev with_own : Entries → Name → Bool → List Name
with_own [] n k = if k then n ∷ [] else []
with_own (e ∷ es) n k = match_ordering (name_cmp n e.0) (if k then n ∷ frames_of (e ∷ es) else frames_of (e ∷ es)) (if k then e.0 ∷ frames_of es else frames_of es)
    (if e.1.own then e.0 ∷ with_own es n k else with_own es n k)

with_own-insert : (es : Entries) (n : Name) (f : FrameBindings) → frames_of (insert_entry name_cmp es n f) ≡ with_own es n f.own
with_own-insert [] n f = refl
with_own-insert (e ∷ es) n f = on (name_cmp n e.0) (with_own-insert es n f)
  where
    on : (o : Ordering) → frames_of (insert_entry name_cmp es n f) ≡ with_own es n f.own
        → frames_of (match_ordering o ((n, f) ∷ e ∷ es) ((e.0, f) ∷ es) (e ∷ insert_entry name_cmp es n f))
        ≡ match_ordering o (if f.own then n ∷ frames_of (e ∷ es) else frames_of (e ∷ es)) (if f.own then e.0 ∷ frames_of es else frames_of es)
        (if e.1.own then e.0 ∷ with_own es n f.own else with_own es n f.own)
    on Less g = refl
    on Equal g = refl
    on Greater g = ap (λ (l : List Name). if e.1.own then e.0 ∷ l else l) g

with_own-same : (es : Entries) (n : Name) → IsStrictlySortedBy name_cmp (keys_of es) → with_own es n (owns (lookup (same_name n) es)) ≡ frames_of es
unfolding IsStrictlySortedBy
with_own-same [] n h = refl
with_own-same (e ∷ es) n h =
    subst (λ (k : Bool). with_own (e ∷ es) n (owns (cond k (Some e.1) (lookup (same_name n) es))) ≡ frames_of (e ∷ es)) (name_is n e.0) (on (name_cmp n e.0) refl (with_own-same es n h.1))
  where
    on : (o : Ordering) → name_cmp n e.0 ≡ o → with_own es n (owns (lookup (same_name n) es)) ≡ frames_of es
        → match_ordering o (if owns (cond (is_eq o) (Some e.1) (lookup (same_name n) es)) then n ∷ frames_of (e ∷ es) else frames_of (e ∷ es))
        (if owns (cond (is_eq o) (Some e.1) (lookup (same_name n) es)) then e.0 ∷ frames_of es else frames_of es)
        (if e.1.own then e.0 ∷ with_own es n (owns (cond (is_eq o) (Some e.1) (lookup (same_name n) es))) else with_own es n (owns (cond (is_eq o) (Some e.1) (lookup (same_name n) es))))
        ≡ frames_of (e ∷ es)
    on Less q g = rw (none-there n es (above-all n e.0 (keys_of es) q h.0)) refl
    on Equal q g = refl
    on Greater q g = ap (λ (l : List Name). if e.1.own then e.0 ∷ l else l) g

-- frames that are later
pub frames-above : (n : Name) (es : Entries) → AllByRecursion (λ m. name_cmp n m ≡ Less) (keys_of es) → AllByRecursion (λ m. name_cmp n m ≡ Less) (frames_of es)
frames-above n [] h = tt
frames-above n (e ∷ es) h = on e.1.own (frames-above n es h.1)
  where
    on : (k : Bool) → AllByRecursion (λ m. name_cmp n m ≡ Less) (frames_of es) → AllByRecursion (λ m. name_cmp n m ≡ Less) (if k then e.0 ∷ frames_of es else frames_of es)
    on true g = (h.0, g)
    on false g = g

named-first : (n : Name) (ns : List Name) → AllByRecursion (λ m. name_cmp n m ≡ Less) ns → named ns n ≡ n ∷ ns
named-first n [] h = refl
named-first n (m ∷ ns) h = rw h.0 refl

with_own-named : (es : Entries) (n : Name) → IsStrictlySortedBy name_cmp (keys_of es) → with_own es n true ≡ named (frames_of es) n
unfolding IsStrictlySortedBy
with_own-named [] n h = refl
with_own-named (e ∷ es) n h = on (name_cmp n e.0) refl e.1.own (with_own-named es n h.1)
  where
    others : n ≡ e.0 → AllByRecursion (λ m. name_cmp n m ≡ Less) (frames_of es)
    others same = frames-above n es (subst (λ (m : Name). AllByRecursion (λ k. name_cmp m k ≡ Less) (keys_of es)) (sym same) h.0)

    on : (o : Ordering) → name_cmp n e.0 ≡ o → (k : Bool) → with_own es n true ≡ named (frames_of es) n
        → match_ordering o (n ∷ (if k then e.0 ∷ frames_of es else frames_of es)) (e.0 ∷ frames_of es) (if k then e.0 ∷ with_own es n true else with_own es n true)
        ≡ named (if k then e.0 ∷ frames_of es else frames_of es) n
    on Less q true g = rw q refl
    on Less q false g = sym (named-first n (frames_of es) (frames-above n es (above-all n e.0 (keys_of es) q h.0)))
    on Equal q true g = rw q refl
    on Equal q false g = let same : n ≡ e.0 = name_exact n e.0 q in ap (λ (m : Name). m ∷ frames_of es) (sym same) ∙ sym (named-first n (frames_of es) (others same))
    on Greater q true g = rw q (ap (λ (l : List Name). e.0 ∷ l) g)
    on Greater q false g = g

-- once bindings of one frame came
module _ (es new : Entries) (n : Name) (f : FrameBindings) (h : IsStrictlySortedBy name_cmp (keys_of es)) (put : new ≡ insert_entry name_cmp es n f) where
  pub bindings-put : (cs : List (Var × Term)) → AreOf n cs → f.bindings.items ≡ put_all (bindings_at (lookup (same_name n) es)) cs → bindings_of new ≡ joins (bindings_of es) cs
  bindings-put cs of e = ap bindings_of put ∙ with_at-insert es n f ∙ ap (with_at es n) e ∙ sym (with_at-joins cs es n (bindings_at (lookup (same_name n) es)) h of)
      ∙ ap (λ (l : List (Var × Term)). joins l cs) (with_at-same es n h)

  pub frames-put : (own : Bool) → f.own ≡ (own || owns (lookup (same_name n) es)) → frames_of new ≡ (if own then named (frames_of es) n else frames_of es)
  frames-put true e = ap frames_of put ∙ with_own-insert es n f ∙ ap (with_own es n) e ∙ with_own-named es n h
  frames-put false e = ap frames_of put ∙ with_own-insert es n f ∙ ap (with_own es n) e ∙ with_own-same es n h

-- frames that come in order, one after another
pub frames-ordered : (es : Entries) → IsStrictlySortedBy name_cmp (keys_of es) → IsStrictlySortedBy name_cmp (frames_of es)
unfolding IsStrictlySortedBy
frames-ordered [] h = tt
frames-ordered (e ∷ es) h = on e.1.own (frames-ordered es h.1)
  where
    on : (k : Bool) → IsStrictlySortedBy name_cmp (frames_of es) → IsStrictlySortedBy name_cmp (if k then e.0 ∷ frames_of es else frames_of es)
    on true g = (frames-above e.0 es h.0, g)
    on false g = g

named-last : (ns : List Name) (n : Name) (ms : List Name) → IsStrictlySortedBy name_cmp (ns ++ n ∷ ms) → named ns n ≡ ns ++ n ∷ []
unfolding IsStrictlySortedBy
named-last [] n ms h = refl
named-last (k ∷ ns) n ms h = rw (Greater-from_less name_cmp name_total k n (at-end ns h.0)) (ap (λ (l : List Name). k ∷ l) (named-last ns n ms h.1))
  where
    at-end : (ls : List Name) → AllByRecursion (λ m. name_cmp k m ≡ Less) (ls ++ n ∷ ms) → name_cmp k n ≡ Less
    at-end [] g = g.0
    at-end (l ∷ ls) g = at-end ls g.1

named-from : (ns ms : List Name) → IsStrictlySortedBy name_cmp (ns ++ ms) → all_named ns ms ≡ ns ++ ms
named-from ns [] h = sym (append-nil ns)
named-from ns (m ∷ ms) h =
    let parts : ns ++ m ∷ ms ≡ (ns ++ m ∷ []) ++ ms = sym (append_assoc ns (m ∷ []) ms) in
    ap (λ (l : List Name). all_named l ms) (named-last ns m ms h) ∙ named-from (ns ++ m ∷ []) ms (subst (IsStrictlySortedBy name_cmp) parts h) ∙ sym parts

pub named-in_order : (ns : List Name) → IsStrictlySortedBy name_cmp ns → all_named [] ns ≡ ns
named-in_order ns h = named-from [] ns h
