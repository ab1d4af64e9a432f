-- One more of a list.
use Rattle.std.proofs.Common.{◌≡◌, ℕ, zero, suc, ◌+◌, ◌<◌, List, [], ◌∷◌, ◌++◌, length, take, drop, add-one, Some, None, Bool, true, false, cond, if◌then◌else◌, refl, sym, ap, subst, ◌∙◌, slice_index_or, append_assoc, arith}
use Rattle.std.specs.Prelude.{◌==◌, ◌||◌, ◌&&◌, find, option_map}
use Rattle.std.proofs.lemmas.List.{take_more, drop_more, drop-drop, at_drop_more}
use Rattle.std.proofs.lemmas.Bool.Decides.{nat_tests}
use Rattle.akl_terms.specs.declared.name.Name.{Name}
use Rattle.akl_terms.specs.declared.name.Var.{Var}
use Rattle.akl_terms.specs.declared.term.Term.{Term}
use Rattle.akl_terms.specs.Names.{same_name, same_var}
use Rattle.rational_unify.specs.Known.{found_in}
use Rattle.rational_unify.proofs.Chains.{found-second}
use Rattle.local_store.specs.declared.frame_bindings.FrameBindings.{FrameBindings}
use Rattle.local_store.specs.Stored.{is_named, named, joined, joins, all_named}
use Rattle.local_store.proofs.Known.{joins-push}
use Rattle.local_store.specs.Kept.{put_at, put_all, found_at, of_frame, frames_of, bindings_of, StartOf}

put_all-push : (bs : List (ℕ × Term)) (cs : List (Var × Term)) (c : Var × Term) → put_all bs (cs ++ c ∷ []) ≡ put_at (put_all bs cs) c.0.index c.1
put_all-push bs [] c = refl
put_all-push bs (d ∷ cs) c = put_all-push (put_at bs d.0.index d.1) cs c

pub put_all-next : (bs list new : List (ℕ × Term)) (cs : List (Var × Term)) (i : ℕ) (d : Var × Term) → i < length cs → list ≡ put_all bs (take i cs)
    → new ≡ put_at list (slice_index_or cs i d).0.index (slice_index_or cs i d).1 → new ≡ put_all bs (take (i + 1) cs)
put_all-next bs list new cs i d h e n = n ∙ ap (λ (l : List (ℕ × Term)). put_at l (slice_index_or cs i d).0.index (slice_index_or cs i d).1) e
    ∙ sym (put_all-push bs (take i cs) (slice_index_or cs i d)) ∙ ap (put_all bs) (sym (take_more cs i d h))

pub all_named-push : (ns ms : List Name) (m : Name) → all_named ns (ms ++ m ∷ []) ≡ named (all_named ns ms) m
all_named-push ns [] m = refl
all_named-push ns (k ∷ ms) m = all_named-push (named ns k) ms m

pub all_named-next : (ns list new ms : List Name) (i : ℕ) (d : Name) → i < length ms → list ≡ all_named ns (take i ms) → new ≡ named list (slice_index_or ms i d) → new ≡ all_named ns (take (i + 1) ms)
all_named-next ns list new ms i d h e n = n ∙ ap (λ (l : List Name). named l (slice_index_or ms i d)) e ∙ sym (all_named-push ns (take i ms) (slice_index_or ms i d)) ∙ ap (all_named ns) (sym (take_more ms i d h))

pub joins-next : (bs list new cs : List (Var × Term)) (i : ℕ) (d : Var × Term) → i < length cs → list ≡ joins bs (take i cs) → new ≡ joined list (slice_index_or cs i d).0 (slice_index_or cs i d).1
    → new ≡ joins bs (take (i + 1) cs)
joins-next bs list new cs i d h e n = n ∙ ap (λ (l : List (Var × Term)). joined l (slice_index_or cs i d).0 (slice_index_or cs i d).1) e ∙ sym (joins-push bs (take i cs) (slice_index_or cs i d)) ∙ ap (joins bs) (sym (take_more cs i d h))

-- the names behind the first ones
pub all_named-drop : (ns new ms : List Name) (i : ℕ) (d : Name) → i < length ms → new ≡ named ns (slice_index_or ms i d) → all_named new (drop (i + 1) ms) ≡ all_named ns (drop i ms)
all_named-drop ns new ms i d h e = ap (λ (l : List Name). all_named l (drop (i + 1) ms)) e ∙ sym (at_drop_more (all_named ns) ms i d h)

pub start-drop : (bs : List (Var × Term)) (i : ℕ) (d : Var × Term) → i < length bs → StartOf (slice_index_or bs i d).0.frame (drop i bs)
start-drop bs i d h = subst (StartOf (slice_index_or bs i d).0.frame) (sym (drop_more bs i d h)) refl

-- those that joined first, and the others
pub joins-split : (bs cs : List (Var × Term)) (n : ℕ) → joins (joins bs (take n cs)) (drop n cs) ≡ joins bs cs
joins-split bs cs zero = refl
joins-split bs [] (suc n) = refl
joins-split bs (c ∷ cs) (suc n) = joins-split (joined bs c.0 c.1) cs n

-- those behind the first ones: so many that joined, and the others
pub joins-drop : (bs cs : List (Var × Term)) (first many : ℕ) → joins (joins bs (take many (drop first cs))) (drop (first + many) cs) ≡ joins bs (drop first cs)
joins-drop bs cs first many = ap (joins (joins bs (take many (drop first cs)))) (sym (drop-drop many first cs)) ∙ joins-split bs (drop first cs) many

frames_of-push : (es : List (Name × FrameBindings)) (e : Name × FrameBindings) → frames_of (es ++ e ∷ []) ≡ frames_of es ++ (if e.1.own then e.0 ∷ [] else [])
frames_of-push [] e = refl
frames_of-push (d ∷ es) e = on d.1.own (frames_of-push es e)
  where
    on : (k : Bool) → frames_of (es ++ e ∷ []) ≡ frames_of es ++ (if e.1.own then e.0 ∷ [] else [])
        → (if k then d.0 ∷ frames_of (es ++ e ∷ []) else frames_of (es ++ e ∷ [])) ≡ (if k then d.0 ∷ frames_of es else frames_of es) ++ (if e.1.own then e.0 ∷ [] else [])
    on true g = ap (λ (l : List Name). d.0 ∷ l) g
    on false g = g

pub frames_of-next : (es : List (Name × FrameBindings)) (i : ℕ) (d : Name × FrameBindings) → i < length es → frames_of (take (i + 1) es) ≡ frames_of (take i es) ++ (if (slice_index_or es i d).1.own then (slice_index_or es i d).0 ∷ [] else [])
frames_of-next es i d h = ap frames_of (take_more es i d h) ∙ frames_of-push (take i es) (slice_index_or es i d)

bindings_of-push : (es : List (Name × FrameBindings)) (e : Name × FrameBindings) → bindings_of (es ++ e ∷ []) ≡ bindings_of es ++ of_frame e.0 e.1.bindings.items
bindings_of-push [] e = nothing-behind (of_frame e.0 e.1.bindings.items)
  where
    nothing-behind : (l : List (Var × Term)) → l ++ [] ≡ l
    nothing-behind [] = refl
    nothing-behind (x ∷ l) = ap (λ (m : List (Var × Term)). x ∷ m) (nothing-behind l)
bindings_of-push (d ∷ es) e = ap (λ (l : List (Var × Term)). of_frame d.0 d.1.bindings.items ++ l) (bindings_of-push es e) ∙ sym (append_assoc (of_frame d.0 d.1.bindings.items) (bindings_of es) (of_frame e.0 e.1.bindings.items))

pub bindings_of-next : (es : List (Name × FrameBindings)) (i : ℕ) (d : Name × FrameBindings) → i < length es → bindings_of (take (i + 1) es) ≡ bindings_of (take i es) ++ of_frame (slice_index_or es i d).0 (slice_index_or es i d).1.bindings.items
bindings_of-next es i d h = ap bindings_of (take_more es i d h) ∙ bindings_of-push (take i es) (slice_index_or es i d)

-- what isn't found in those that were looked at
found_at-push : (bs : List (ℕ × Term)) (b : ℕ × Term) (i : ℕ) → found_at bs i ≡ None → found_at (bs ++ b ∷ []) i ≡ found_at (b ∷ []) i
found_at-push [] b i h = refl
found_at-push (c ∷ bs) b i h = on (c.0 == i) h (found_at-push bs b i)
  where
    on : (k : Bool) → option_map (λ (p : ℕ × Term). p.1) (cond k (Some c) (find (λ p. p.0 == i) bs)) ≡ None → (found_at bs i ≡ None → found_at (bs ++ b ∷ []) i ≡ found_at (b ∷ []) i)
        → option_map (λ (p : ℕ × Term). p.1) (cond k (Some c) (find (λ p. p.0 == i) (bs ++ b ∷ []))) ≡ found_at (b ∷ []) i
    on true q f = cc
    on false q f = f q

pub found_at-next : (bs : List (ℕ × Term)) (k : ℕ) (d : ℕ × Term) (i : ℕ) → k < length bs → found_at (take k bs) i ≡ None → found_at (take (k + 1) bs) i ≡ found_at (slice_index_or bs k d ∷ []) i
found_at-next bs k d i h none = ap (λ (l : List (ℕ × Term)). found_at l i) (take_more bs k d h) ∙ found_at-push (take k bs) (slice_index_or bs k d) i none

pub found_in-next : (bs : List (Var × Term)) (k : ℕ) (d : Var × Term) (x : Var) → k < length bs → found_in (take k bs) x ≡ None → found_in (take (k + 1) bs) x ≡ found_in (slice_index_or bs k d ∷ []) x
found_in-next bs k d x h none = ap (λ (l : List (Var × Term)). found_in l x) (take_more bs k d h) ∙ found-second (take k bs) (slice_index_or bs k d ∷ []) x none

-- what is found in the first ones is found in all of them
found_at-more : (bs : List (ℕ × Term)) (k i : ℕ) (t : Term) → found_at (take k bs) i ≡ Some t → found_at bs i ≡ Some t
found_at-more bs zero i t h = cc
found_at-more [] (suc k) i t h = h
found_at-more (b ∷ bs) (suc k) i t h = on (b.0 == i) h (found_at-more bs k i t)
  where
    on : (q : Bool) → option_map (λ (p : ℕ × Term). p.1) (cond q (Some b) (find (λ p. p.0 == i) (take k bs))) ≡ Some t → (found_at (take k bs) i ≡ Some t → found_at bs i ≡ Some t)
        → option_map (λ (p : ℕ × Term). p.1) (cond q (Some b) (find (λ p. p.0 == i) bs)) ≡ Some t
    on true q f = q
    on false q f = f q

pub found_at-here : (bs : List (ℕ × Term)) (k : ℕ) (d : ℕ × Term) (i : ℕ) (t : Term) → k < length bs → found_at (take k bs) i ≡ None → found_at (slice_index_or bs k d ∷ []) i ≡ Some t → Some t ≡ found_at bs i
found_at-here bs k d i t h none e = sym (found_at-more bs (k + 1) i t (found_at-next bs k d i h none ∙ e))

found_in-more : (bs : List (Var × Term)) (k : ℕ) (x : Var) (t : Term) → found_in (take k bs) x ≡ Some t → found_in bs x ≡ Some t
found_in-more bs zero x t h = cc
found_in-more [] (suc k) x t h = h
found_in-more (b ∷ bs) (suc k) x t h = on (same_var b.0 x) h (found_in-more bs k x t)
  where
    on : (q : Bool) → option_map (λ (p : Var × Term). p.1) (cond q (Some b) (find (λ p. same_var p.0 x) (take k bs))) ≡ Some t → (found_in (take k bs) x ≡ Some t → found_in bs x ≡ Some t)
        → option_map (λ (p : Var × Term). p.1) (cond q (Some b) (find (λ p. same_var p.0 x) bs)) ≡ Some t
    on true q f = q
    on false q f = f q

pub found_in-here : (bs : List (Var × Term)) (k : ℕ) (d : Var × Term) (x : Var) (t : Term) → k < length bs → found_in (take k bs) x ≡ None → found_in (slice_index_or bs k d ∷ []) x ≡ Some t → Some t ≡ found_in bs x
found_in-here bs k d x t h none e = sym (found_in-more bs (k + 1) x t (found_in-next bs k d x h none ∙ e))

-- one binding alone
pub one-at : (b : ℕ × Term) (i : ℕ) → b.0 ≡ i → found_at (b ∷ []) i ≡ Some b.1
one-at b i e = let same : (b.0 == i) ≡ true = grind (arith, nat_tests) in rw same refl

pub other-at : (b : ℕ × Term) (i : ℕ) → (b.0 ≡ i → ⊥) → found_at (b ∷ []) i ≡ None
other-at b i n = let other : (b.0 == i) ≡ false = grind (arith, nat_tests) in rw other refl

pub one-in : (b : Var × Term) (x : Var) → same_var b.0 x ≡ true → found_in (b ∷ []) x ≡ Some b.1
one-in b x e = rw e refl

pub other-in : (b : Var × Term) (x : Var) → same_var b.0 x ≡ false → found_in (b ∷ []) x ≡ None
other-in b x e = rw e refl

-- whether a name is one of those that were looked at
is_named-push : (ns : List Name) (n m : Name) → is_named ns m ≡ false → is_named (ns ++ n ∷ []) m ≡ is_named (n ∷ []) m
is_named-push [] n m h = refl
is_named-push (k ∷ ns) n m h = on (same_name k m) h (is_named-push ns n m)
  where
    on : (b : Bool) → (b || is_named ns m) ≡ false → (is_named ns m ≡ false → is_named (ns ++ n ∷ []) m ≡ is_named (n ∷ []) m) → (b || is_named (ns ++ n ∷ []) m) ≡ is_named (n ∷ []) m
    on true h f = cc
    on false h f = f h

pub is_named-next : (ns : List Name) (i : ℕ) (d m : Name) → i < length ns → is_named (take i ns) m ≡ false → same_name (slice_index_or ns i d) m ≡ false → is_named (take (i + 1) ns) m ≡ false
is_named-next ns i d m h none e = ap (λ (l : List Name). is_named l m) (take_more ns i d h) ∙ is_named-push (take i ns) (slice_index_or ns i d) m none ∙ rw e refl

pub is_named-here : (ns : List Name) (i : ℕ) (d m : Name) → i < length ns → same_name (slice_index_or ns i d) m ≡ true → true ≡ is_named ns m
is_named-here [] i d m h e = absurd (omega arith)
is_named-here (n ∷ ns) zero d m h e = rw e refl
is_named-here (n ∷ ns) (suc i) d m h e = on (same_name n m) (is_named-here ns i d m (omega arith) e)
  where
    on : (b : Bool) → true ≡ is_named ns m → true ≡ (b || is_named ns m)
    on true g = refl
    on false g = g

-- one more taken from the front
pub drop-one : {A : Type 0} (k : ℕ) (xs : List A) → drop 1 (drop k xs) ≡ drop (k + 1) xs
drop-one k xs = rw add-one (one k xs)
  where
    one : {A : Type 0} (k : ℕ) (xs : List A) → drop 1 (drop k xs) ≡ drop (suc k) xs
    one zero xs = refl
    one (suc k) [] = refl
    one (suc k) (x ∷ xs) = one k xs

-- one of a variable of another frame
pub other-frame-in : (b : Var × Term) (x : Var) (frame : Name) → x.frame ≡ frame → same_name b.0.frame frame ≡ false → found_in (b ∷ []) x ≡ None
other-frame-in b x frame e h = other-in b x (ap (λ (n : Name). same_name b.0.frame n && (b.0.index == x.index)) e ∙ ap (λ (k : Bool). k && (b.0.index == x.index)) h)
