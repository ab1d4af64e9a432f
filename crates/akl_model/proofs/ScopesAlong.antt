-- What is in scope along the boxes around a box, and which variables stand in the equations around it.
use Rattle.std.proofs.Common.{◌≡◌, ℕ, ◌+◌, ◌≤◌, ◌<◌, List, [], ◌∷◌, ◌++◌, Bool, true, false, Some, None, sym, ap, subst, ◌⊎◌, inl, inr, arith}
use Rattle.std.specs.Prelude.{if◌then◌else◌, option_map}
use Rattle.akl_terms.specs.declared.name.Name.{Name}
use Rattle.akl_terms.specs.declared.name.Var.{Var}
use Rattle.akl_terms.specs.Tree.{Tree, Trees, variable, integer, port, symbol, none, more}
use Rattle.akl_terms.specs.Equal.{Equations, IsTold}
use Rattle.akl_terms.specs.Touching.{IsLocal, IsOutside}
use Rattle.akl_terms.specs.Names.{same_name}
use Rattle.akl_model.specs.Config.{IsIn, Content, Boxes, no_boxes, box, Goals, no_goals, atom, choice, Config, Found, equations_of, environment, or_else, within, box_at, box_inside}
use Rattle.akl_model.specs.Renaming.{port_names}
use Rattle.akl_model.specs.Stable.{only, frames_of, frames_inside}
use Rattle.akl_model.specs.Names.{one_if, times_in}
use Rattle.constraint_laws.specs.Growth.{IsOver, AreOver, TellsOver}
use Rattle.akl_model.specs.Scopes.{Scope, nowhere, scope_in, IsScoped, AreScoped, EquationsScoped}
use Rattle.akl_model.proofs.Finds.{times, times_of, times_inside}
use Rattle.akl_terms.proofs.SameNames.{same_name-refl}
use Rattle.akl_model.proofs.NamesKept.{Stand}
use Rattle.akl_model.proofs.Options.{map_some, or_some, some_value}
use Rattle.akl_model.proofs.Scoped.{IsIn-right, IsIn-either, Within, equations_wider, equations_append, Within-in}
use Rattle.akl_model.specs.Owned.{own_in, BoxesOwned, GoalsOwned}
use Rattle.akl_model.proofs.Owned.{own_within_in}

-- the scope around a box
abbrev pub scope_along : Scope → List Content → Scope
scope_along s [] = s
scope_along s (b ∷ bs) = scope_along (scope_in s b) bs

-- what a box may use of the boxes around it
abbrev pub own_along : Scope → List Content → Scope
own_along s [] = s
own_along s (b ∷ bs) = own_along (own_in s b) bs

-- a box that is found is over frames that it may use
mutual
  pub found_owned : (s : Scope) (m : Name) (bs : Boxes) (f : Found) → BoxesOwned s bs → box_at m bs ≡ Some f → BoxesOwned (own_along s f.around) (only f)
  found_owned s m no_boxes f h e = cc
  found_owned s m (box b gs bs) f h e = on (same_name m b.name) e (λ k i. found_owned_inside (own_in s b) m gs k h.1 i) (λ i. found_owned s m bs f h.2 i)
    where
      on : (t : Bool) → (if t then Some (record { around = []; content = b; goals = gs }) else or_else (option_map (within b) (box_inside m gs)) (box_at m bs)) ≡ Some f
          → ((k : Found) → box_inside m gs ≡ Some k → BoxesOwned (own_along (own_in s b) k.around) (only k)) → (box_at m bs ≡ Some f → BoxesOwned (own_along s f.around) (only f))
          → BoxesOwned (own_along s f.around) (only f)
      on true i x y = subst (λ (k : Found). BoxesOwned (own_along s k.around) (only k)) (some_value i) (h.0, h.1, tt)
      on false i x y = elim (or_some (option_map (within b) (box_inside m gs)) (box_at m bs) f i) [
        | inl j ↦ let w : (k : Found) × (box_inside m gs ≡ Some k) × (within b k ≡ f) = map_some (within b) (box_inside m gs) f j in subst (λ (k : Found). BoxesOwned (own_along s k.around) (only k)) w.2 (x w.0 w.1)
        | inr j ↦ y j.1
      ]

  found_owned_inside : (s : Scope) (m : Name) (gs : Goals) (f : Found) → GoalsOwned s gs → box_inside m gs ≡ Some f → BoxesOwned (own_along s f.around) (only f)
  found_owned_inside s m no_goals f h e = cc
  found_owned_inside s m (atom g a gs) f h e = found_owned_inside s m gs f h.1 e
  found_owned_inside s m (choice g o bs gs) f h e = on (or_some (box_at m bs) (box_inside m gs) f e) (λ i. found_owned s m bs f h.0 i) (λ i. found_owned_inside s m gs f h.1 i)
    where
      on : (box_at m bs ≡ Some f) ⊎ ((box_at m bs ≡ None) × (box_inside m gs ≡ Some f)) → (box_at m bs ≡ Some f → BoxesOwned (own_along s f.around) (only f))
          → (box_inside m gs ≡ Some f → BoxesOwned (own_along s f.around) (only f)) → BoxesOwned (own_along s f.around) (only f)
      on (inl i) x y = x i
      on (inr i) x y = y i.1

-- names along a path

abbrev pub times_path : Name → List Content → ℕ
times_path n [] = 0
times_path n (b ∷ bs) = times_of n b + times_path n bs

mutual
  pub found_path : (n m : Name) (bs : Boxes) (f : Found) → box_at m bs ≡ Some f → times n (only f) + times_path n f.around ≤ times n bs
  found_path n m no_boxes f e = cc
  found_path n m (box b gs bs) f e = on (same_name m b.name) e (λ k i. found_path_inside n m gs k i) (λ i. found_path n m bs f i)
    where
      on : (t : Bool) → (if t then Some (record { around = []; content = b; goals = gs }) else or_else (option_map (within b) (box_inside m gs)) (box_at m bs)) ≡ Some f
          → ((k : Found) → box_inside m gs ≡ Some k → times n (only k) + times_path n k.around ≤ times_inside n gs) → (box_at m bs ≡ Some f → times n (only f) + times_path n f.around ≤ times n bs)
          → times n (only f) + times_path n f.around ≤ times_of n b + (times_inside n gs + times n bs)
      on true i x y =
          let q : record { around = []; content = b; goals = gs } ≡ f = some_value i in
          let r : times_of n b + (times_inside n gs + 0) ≡ times n (only f) = ap (λ (k : Found). times n (only k)) q in
          let u : 0 ≡ times_path n f.around = ap (λ (k : Found). times_path n k.around) q in
          omega arith
      on false i x y = elim (or_some (option_map (within b) (box_inside m gs)) (box_at m bs) f i) [
        | inl j ↦
            let w : (k : Found) × (box_inside m gs ≡ Some k) × (within b k ≡ f) = map_some (within b) (box_inside m gs) f j in
            let h : times n (only w.0) + times_path n w.0.around ≤ times_inside n gs = x w.0 w.1 in
            let r : times n (only w.0) ≡ times n (only f) = ap (λ (k : Found). times n (only k)) w.2 in
            let u : times_of n b + times_path n w.0.around ≡ times_path n f.around = ap (λ (k : Found). times_path n k.around) w.2 in
            omega arith
        | inr j ↦ let h : times n (only f) + times_path n f.around ≤ times n bs = y j.1 in omega arith
      ]

  found_path_inside : (n m : Name) (gs : Goals) (f : Found) → box_inside m gs ≡ Some f → times n (only f) + times_path n f.around ≤ times_inside n gs
  found_path_inside n m no_goals f e = cc
  found_path_inside n m (atom g a gs) f e = let h : times n (only f) + times_path n f.around ≤ times_inside n gs = found_path_inside n m gs f e in omega arith
  found_path_inside n m (choice g o bs gs) f e = on (or_some (box_at m bs) (box_inside m gs) f e) (λ i. found_path n m bs f i) (λ i. found_path_inside n m gs f i)
    where
      on : (box_at m bs ≡ Some f) ⊎ ((box_at m bs ≡ None) × (box_inside m gs ≡ Some f)) → (box_at m bs ≡ Some f → times n (only f) + times_path n f.around ≤ times n bs)
          → (box_inside m gs ≡ Some f → times n (only f) + times_path n f.around ≤ times_inside n gs)
          → times n (only f) + times_path n f.around ≤ one_if (same_name n g) + (times n bs + times_inside n gs)
      on (inl i) x y = let h : times n (only f) + times_path n f.around ≤ times n bs = x i in omega arith
      on (inr i) x y = let h : times n (only f) + times_path n f.around ≤ times_inside n gs = y i.1 in omega arith

-- where names stand once, they do in a box that is found
pub only_once : (bs : Boxes) → ((n : Name) → times n bs ≤ 1) → (m : Name) (f : Found) → box_at m bs ≡ Some f → (n : Name) → times n (only f) ≤ 1
only_once bs once m f e n = let k : times n (only f) + times_path n f.around ≤ times n bs = found_path n m bs f e in let o : times n bs ≤ 1 = once n in omega arith

pub counted_in : (n : Name) (ns : List Name) → IsIn n ns → 0 < times_in n ns
counted_in n [] h = absurd h
counted_in n (m ∷ ms) (inl e) = let u : one_if (same_name n m) ≡ 1 = ap one_if (subst (λ (k : Name). same_name n k ≡ true) e (same_name-refl n)) in omega arith
counted_in n (m ∷ ms) (inr h) = let i : 0 < times_in n ms = counted_in n ms h in omega arith

along_frames : (n : Name) (s : Scope) (path : List Content) → IsIn n (scope_along s path).frames → IsIn n s.frames ⊎ (0 < times_path n path)
along_frames n s [] h = inl h
along_frames n s (b ∷ bs) h = on (along_frames n (scope_in s b) bs h)
  where
    on : IsIn n (b.frames ++ s.frames) ⊎ (0 < times_path n bs) → IsIn n s.frames ⊎ (0 < times_of n b + times_path n bs)
    on (inr i) = inr (omega arith)
    on (inl i) = elim (IsIn-either n b.frames s.frames i) [ inl a ↦ let c : 0 < times_in n b.frames = counted_in n b.frames a in inr (omega arith) | inr a ↦ inl a ]

pub along_ports : (n : Name) (s : Scope) (path : List Content) → IsIn n (scope_along s path).ports → IsIn n s.ports ⊎ (0 < times_path n path)
along_ports n s [] h = inl h
along_ports n s (b ∷ bs) h = on (along_ports n (scope_in s b) bs h)
  where
    on : IsIn n (port_names b.ports ++ s.ports) ⊎ (0 < times_path n bs) → IsIn n s.ports ⊎ (0 < times_of n b + times_path n bs)
    on (inr i) = inr (omega arith)
    on (inl i) = elim (IsIn-either n (port_names b.ports) s.ports i) [ inl a ↦ let c : 0 < times_in n (port_names b.ports) = counted_in n (port_names b.ports) a in inr (omega arith) | inr a ↦ inl a ]

-- a name around a box isn't in it
module _ (bs : Boxes) (once : (n : Name) → times n bs ≤ 1) (m : Name) (f : Found) (e : box_at m bs ≡ Some f) where
  apart : (n : Name) → 0 < times_path n f.around → times n (only f) ≡ 0
  apart n h = let k : times n (only f) + times_path n f.around ≤ times n bs = found_path n m bs f e in let o : times n bs ≤ 1 = once n in omega arith

  pub frame_apart : (n : Name) → IsIn n (scope_along nowhere f.around).frames → times n (only f) ≡ 0
  frame_apart n h = elim (along_frames n nowhere f.around h) [ inl x ↦ absurd x | inr x ↦ apart n x ]

  pub port_apart : (n : Name) → IsIn n (scope_along nowhere f.around).ports → times n (only f) ≡ 0
  port_apart n h = elim (along_ports n nowhere f.around h) [ inl x ↦ absurd x | inr x ↦ apart n x ]

within_along : (s t : Scope) → Within s t → (path : List Content) → Within (own_along s path) (scope_along t path)
within_along s t g [] = g
within_along s t g (b ∷ bs) = within_along (own_in s b) (scope_in t b) (own_within_in s t b g) bs

pub around_within : (path : List Content) → Within (own_along nowhere path) (scope_along nowhere path)
around_within path = within_along nowhere nowhere (record { frames = λ n h. h; ports = λ n h. h }) path

-- the equations around a box

pub wider_along : (s : Scope) (path : List Content) → Within s (scope_along s path)
wider_along s [] = record { frames = λ n h. h; ports = λ n h. h }
wider_along s (b ∷ bs) =
    let w : Within (scope_in s b) (scope_along (scope_in s b) bs) = wider_along (scope_in s b) bs in
    record { frames = λ n h. w.frames n (IsIn-right n b.frames s.frames h); ports = λ n h. w.ports n (IsIn-right n (port_names b.ports) s.ports h) }

mutual
  around_scoped : (s t : Scope) → Within s t → (m : Name) (bs : Boxes) (f : Found) → BoxesOwned s bs → box_at m bs ≡ Some f → EquationsScoped (scope_along t f.around) (equations_of f.around)
  around_scoped s t u m no_boxes f h e = cc
  around_scoped s t u m (box b gs bs) f h e = on (same_name m b.name) e (λ k i. around_scoped_inside (own_in s b) (scope_in t b) (own_within_in s t b u) m gs k h.1 i) (λ i. around_scoped s t u m bs f h.2 i)
    where
      on : (v : Bool) → (if v then Some (record { around = []; content = b; goals = gs }) else or_else (option_map (within b) (box_inside m gs)) (box_at m bs)) ≡ Some f
          → ((k : Found) → box_inside m gs ≡ Some k → EquationsScoped (scope_along (scope_in t b) k.around) (equations_of k.around))
          → (box_at m bs ≡ Some f → EquationsScoped (scope_along t f.around) (equations_of f.around)) → EquationsScoped (scope_along t f.around) (equations_of f.around)
      on true i x y = subst (λ (k : Found). EquationsScoped (scope_along t k.around) (equations_of k.around)) (some_value i) tt
      on false i x y = elim (or_some (option_map (within b) (box_inside m gs)) (box_at m bs) f i) [
        | inl j ↦
            let w : (k : Found) × (box_inside m gs ≡ Some k) × (within b k ≡ f) = map_some (within b) (box_inside m gs) f j in
            subst (λ (k : Found). EquationsScoped (scope_along t k.around) (equations_of k.around)) w.2
            (equations_append (scope_along (scope_in t b) w.0.around) b.equations (equations_of w.0.around)
            (equations_wider (scope_in t b) (scope_along (scope_in t b) w.0.around) (wider_along (scope_in t b) w.0.around) b.equations (equations_wider (scope_in s b) (scope_in t b) (Within-in s t b u) b.equations h.0.equations)) (x w.0 w.1))
        | inr j ↦ y j.1
      ]

  around_scoped_inside : (s t : Scope) → Within s t → (m : Name) (gs : Goals) (f : Found) → GoalsOwned s gs → box_inside m gs ≡ Some f → EquationsScoped (scope_along t f.around) (equations_of f.around)
  around_scoped_inside s t u m no_goals f h e = cc
  around_scoped_inside s t u m (atom g a gs) f h e = around_scoped_inside s t u m gs f h.1 e
  around_scoped_inside s t u m (choice g o bs gs) f h e = on (or_some (box_at m bs) (box_inside m gs) f e) (λ i. around_scoped s t u m bs f h.0 i) (λ i. around_scoped_inside s t u m gs f h.1 i)
    where
      on : (box_at m bs ≡ Some f) ⊎ ((box_at m bs ≡ None) × (box_inside m gs ≡ Some f)) → (box_at m bs ≡ Some f → EquationsScoped (scope_along t f.around) (equations_of f.around))
          → (box_inside m gs ≡ Some f → EquationsScoped (scope_along t f.around) (equations_of f.around)) → EquationsScoped (scope_along t f.around) (equations_of f.around)
      on (inl i) x y = x i
      on (inr i) x y = y i.1

pub told_scoped_by : (s : Scope) (E : Equations) (a b : Tree) → EquationsScoped s E → IsTold E a b → IsScoped s a × IsScoped s b
told_scoped_by s [] a b h m = absurd m
told_scoped_by s (e ∷ es) a b h (inl p) = (subst (IsScoped s) (sym p.0) h.0, subst (IsScoped s) (sym p.1) h.1)
told_scoped_by s (e ∷ es) a b h (inr m) = told_scoped_by s es a b h.2 m

pub local_in : (fs : List Name) (x : Var) → IsLocal fs x → IsIn x.frame fs
local_in [] x h = h
local_in (f ∷ fs) x (inl e) = inl e
local_in (f ∷ fs) x (inr h) = inr (local_in fs x h)

pub in_local : (fs : List Name) (x : Var) → IsIn x.frame fs → IsLocal fs x
in_local [] x h = h
in_local (f ∷ fs) x (inl e) = inl e
in_local (f ∷ fs) x (inr h) = inr (in_local fs x h)

mutual
  pub frames_counted : (n : Name) (bs : Boxes) → IsIn n (frames_of bs) → 0 < times n bs
  frames_counted n no_boxes h = absurd h
  frames_counted n (box b gs bs) h = on (IsIn-either n b.frames (frames_inside gs ++ frames_of bs) h) (λ i. frames_counted_inside n gs i) (λ i. frames_counted n bs i)
    where
      on : IsIn n b.frames ⊎ IsIn n (frames_inside gs ++ frames_of bs) → (IsIn n (frames_inside gs) → 0 < times_inside n gs) → (IsIn n (frames_of bs) → 0 < times n bs) → 0 < times_of n b + (times_inside n gs + times n bs)
      on (inl i) f g = let c : 0 < times_in n b.frames = counted_in n b.frames i in omega arith
      on (inr i) f g = elim (IsIn-either n (frames_inside gs) (frames_of bs) i) [ inl j ↦ let c : 0 < times_inside n gs = f j in omega arith | inr j ↦ let c : 0 < times n bs = g j in omega arith ]

  frames_counted_inside : (n : Name) (gs : Goals) → IsIn n (frames_inside gs) → 0 < times_inside n gs
  frames_counted_inside n no_goals h = absurd h
  frames_counted_inside n (atom g a gs) h = let c : 0 < times_inside n gs = frames_counted_inside n gs h in omega arith
  frames_counted_inside n (choice g o bs gs) h = on (IsIn-either n (frames_of bs) (frames_inside gs) h) (λ i. frames_counted n bs i) (λ i. frames_counted_inside n gs i)
    where
      on : IsIn n (frames_of bs) ⊎ IsIn n (frames_inside gs) → (IsIn n (frames_of bs) → 0 < times n bs) → (IsIn n (frames_inside gs) → 0 < times_inside n gs)
          → 0 < one_if (same_name n g) + (times n bs + times_inside n gs)
      on (inl i) f g = let c : 0 < times n bs = f i in omega arith
      on (inr i) f g = let c : 0 < times_inside n gs = g i in omega arith

mutual
  over_scope : (s : Scope) (fs : List Name) → ((n : Name) → IsIn n s.frames → IsIn n fs → ⊥) → (t : Tree) → IsScoped s t → IsOver (IsOutside fs) t
  over_scope s fs h (variable x) k = λ l. h x.frame k (local_in fs x l)
  over_scope s fs h (integer z) k = tt
  over_scope s fs h (port q) k = tt
  over_scope s fs h (symbol f ts) k = all_over_scope s fs h ts k

  all_over_scope : (s : Scope) (fs : List Name) → ((n : Name) → IsIn n s.frames → IsIn n fs → ⊥) → (ts : Trees) → AreScoped s ts → AreOver (IsOutside fs) ts
  all_over_scope s fs h none k = tt
  all_over_scope s fs h (more t ts) k = (over_scope s fs h t k.0, all_over_scope s fs h ts k.1)

pub environment_scoped : (c : Config) → BoxesOwned nowhere c.roots → (n : Name) (f : Found) → box_at n c.roots ≡ Some f → EquationsScoped (scope_along nowhere f.around) (environment f)
environment_scoped c h n f e = around_scoped nowhere nowhere (record { frames = λ m i. i; ports = λ m i. i }) n c.roots f h e

pub environment_outside : (c : Config) → Stand c → BoxesOwned nowhere c.roots → (n : Name) (f : Found) → box_at n c.roots ≡ Some f → TellsOver (IsOutside (frames_of (only f))) (environment f)
environment_outside c s h n f e = record {
  each = λ a b m.
      let k : IsScoped there a × IsScoped there b = told_scoped_by there (equations_of f.around) a b (environment_scoped c h n f e) m in
      (over_scope there (frames_of (only f)) away a k.0, over_scope there (frames_of (only f)) away b k.1);
}
  where
    there : Scope
    there = scope_along nowhere f.around

    away : (m : Name) → IsIn m there.frames → IsIn m (frames_of (only f)) → ⊥
    away m i j =
        let z : times m (only f) ≡ 0 = frame_apart c.roots s.once n f e m i in
        let o : 0 < times m (only f) = frames_counted m (only f) j in
        omega arith
