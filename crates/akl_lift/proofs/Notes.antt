-- What the walk has noted, and where it is found.
use Rattle.std.proofs.Common.{◌≡◌, ℕ, suc, ◌+◌, ◌<◌, ◌≤◌, List, [], ◌∷◌, ◌++◌, length, map, drop, get_or, refl, sym, ap, ◌∙◌, arith, append_assoc, length-append, length-drop, Vec, Global}
use Rattle.std.proofs.Math.Seq.{drop-append_seam}
use Rattle.std.proofs.lemmas.List.{append-nil, drop_more, drop_all, drop-drop, length-map, get_or-map}
use Rattle.std.specs.List.{concat}
use Rattle.akl_syntax.specs.declared.source.SourceGoal.TheVariants as source
use Rattle.akl_syntax.specs.declared.source.SourceGoal.TheOpen as open_goals
use Rattle.akl_syntax.specs.declared.source.SourceGoal.TheFolds.{fold-roll-SourceGoal}
use Rattle.akl_syntax.specs.Goals.{Goal, Goals, Part, Parts, call, choice, lifted, collect, lifted_collect, no_goals, more_goals, no_parts, more_parts, goals, parts}
use Rattle.akl_syntax.specs.GoalView.{goal, part, goal_step, part_step}
use Rattle.term_syntax.specs.declared.source.SourceTerm.{SourceTerm}
use Rattle.term_syntax.specs.View.{tree}
use Rattle.akl_syntax.specs.declared.source.SourceGoal.{SourceGoal}
use Rattle.akl_syntax.specs.declared.source.SourcePart.{SourcePart}
use Rattle.akl_syntax.proofs.PartTurns.{part_is}
use Rattle.akl_lift.specs.Lifting.{choices_in, choices_in_all, choices_in_parts}
use Rattle.akl_lift.specs.Noting.{Noted, distinct, outer, outer_all, outer_parts, noted_of, insides, insides_all, insides_parts, inside_view, HasNoted}
use Rattle.akl_lift.specs.declared.noting.Inside.{Inside}
use Rattle.akl_lift.proofs.FirstSeen.{one_dropped}
use Rattle.akl_lift.proofs.Slots.{piece_turn, lists_turn}

-- the variables of a part, and what is noted of the choices in it
abbrev pub outer_part : SourcePart → List ℕ
outer_part x = outer_all (goals (map goal x.guard.items)) ++ outer_all (goals (map goal x.body.items))

abbrev pub insides_part : SourcePart → List Noted
insides_part x = insides_all (goals (map goal x.guard.items)) ++ insides_all (goals (map goal x.body.items))

pub goal_lifted_collect : (n : ℕ) (v : Vec ℕ Global) (t : SourceTerm) → goal (source.LiftedCollect n v t) ≡ lifted_collect n v.items (tree t)
goal_lifted_collect n v t = ap goal (sym (source.rolls-LiftedCollect n v t)) ∙ fold-roll-SourceGoal Goal Part goal_step part_step (open_goals.LiftedCollect n v t)

pub goal_lifted : (n : ℕ) (v : Vec ℕ Global) → goal (source.Lifted n v) ≡ lifted n v.items
goal_lifted n v = ap goal (sym (source.rolls-Lifted n v)) ∙ fold-roll-SourceGoal Goal Part goal_step part_step (open_goals.Lifted n v)

-- ---- goals and parts, one by one
pub goals_dropped : (xs : List SourceGoal) (i : ℕ) (x : SourceGoal) → i < length xs → x ≡ get_or xs i x → goals (map goal (drop i xs)) ≡ more_goals (goal x) (goals (map goal (drop (i + 1) xs)))
goals_dropped xs i x h e = ap (λ ys. goals (map goal ys)) (one_dropped xs i x h e)

pub parts_dropped : (xs : List SourcePart) (i : ℕ) (x : SourcePart) → i < length xs → x ≡ get_or xs i x
    → parts (map part (drop i xs)) ≡ more_parts (goals (map goal x.guard.items)) x.op (goals (map goal x.body.items)) (parts (map part (drop (i + 1) xs)))
parts_dropped xs i x h e = ap (λ ys. parts (map part ys)) (one_dropped xs i x h e) ∙ ap (λ p. parts (p ∷ map part (drop (i + 1) xs))) (part_is x)

pub outer_parts-map : (xs : List SourcePart) → outer_parts (parts (map part xs)) ≡ map outer_part xs
outer_parts-map [] = refl
outer_parts-map (x ∷ xs) = ap (λ p. outer_parts (parts (p ∷ map part xs))) (part_is x) ∙ ap (λ ys. outer_part x ∷ ys) (outer_parts-map xs)

pub length-outer_parts : (xs : List SourcePart) (lists : List (Vec ℕ Global)) → map (λ v. v.items) lists ≡ outer_parts (parts (map part xs)) → length lists ≡ length xs
length-outer_parts xs lists e = sym (length-map lists (λ (v : Vec ℕ Global). v.items)) ∙ ap length (e ∙ outer_parts-map xs) ∙ length-map xs outer_part

pub outer_at : (xs : List SourcePart) (lists : List (Vec ℕ Global)) (i : ℕ) (x : SourcePart) (v : Vec ℕ Global) → i < length xs → x ≡ get_or xs i x → v ≡ get_or lists i v → map (λ v. v.items) lists ≡ outer_parts (parts (map part xs)) → v.items ≡ outer_part x
outer_at xs lists i x v h e f g =
    let l : length lists ≡ length xs = length-outer_parts xs lists g in
    let within : i < length lists = omega arith in
    ap (λ (z : Vec ℕ Global). z.items) f ∙ sym (get_or-map (λ (z : Vec ℕ Global). z.items) lists i v v.items within) ∙ ap (λ (ls : List (List ℕ)). get_or ls i v.items) (g ∙ outer_parts-map xs)
    ∙ get_or-map outer_part xs i x v.items h ∙ sym (ap outer_part e)

-- ---- what stands in the notes
pub noted_front : {noted : List Inside} {at : ℕ} (es fs : List Noted) → HasNoted noted at (es ++ fs) → HasNoted noted at es
noted_front es fs n = record { rest = fs ++ n.rest; are = n.are ∙ append_assoc es fs n.rest }

pub noted_back : {noted : List Inside} {at next : ℕ} (es fs : List Noted) → next ≡ at + length es → HasNoted noted at (es ++ fs) → HasNoted noted next fs
noted_back {noted} {at} {next} es fs e n = record {
  rest = n.rest;
  are = ap (λ k. drop k (map inside_view noted)) e ∙ sym (drop-drop (length es) at (map inside_view noted)) ∙ ap (drop (length es)) (n.are ∙ append_assoc es fs n.rest) ∙ drop-append_seam es (fs ++ n.rest);
}

pub noted_room : {noted : List Inside} {at : ℕ} {e : Noted} {es : List Noted} → HasNoted noted at (e ∷ es) → at < length noted
noted_room {noted} {at} {e} {es} n =
    let d : length (drop at (map inside_view noted)) ≡ suc (length (es ++ n.rest)) = ap length n.are in
    let f : length (map inside_view noted) ≡ length noted = length-map noted inside_view in
    omega (arith, length-drop at (map inside_view noted))

pub noted_at : {noted : List Inside} {at : ℕ} {e : Noted} {es : List Noted} (x : Inside) → x ≡ get_or noted at x → HasNoted noted at (e ∷ es) → inside_view x ≡ e
noted_at {noted} {at} {e} {es} x q n =
    let room : at < length noted = noted_room n in
    let f : length (map inside_view noted) ≡ length noted = length-map noted inside_view in
    let within : at < length (map inside_view noted) = omega arith in
    let g : get_or (map inside_view noted) at e ∷ drop (at + 1) (map inside_view noted) ≡ e ∷ (es ++ n.rest) = sym (drop_more (map inside_view noted) at e within) ∙ n.are in
    let h : get_or (map inside_view noted) at e ≡ e = cc in
    ap inside_view q ∙ sym (get_or-map inside_view noted at x e room) ∙ h

abbrev noted_by : List ℕ → List (List ℕ) → Noted
noted_by vs ls = record { variables = vs; parts = ls }

pub noted_same : (x : Inside) (lists : List (List ℕ)) → map (λ v. v.items) x.parts.items ≡ lists → x.variables.items ≡ distinct (concat (map (λ v. v.items) x.parts.items)) → inside_view x ≡ noted_of lists
noted_same x lists e f =
    let all : x.variables.items ≡ distinct (concat lists) = f ∙ ap (λ (ls : List (List ℕ)). distinct (concat ls)) e in
    ap (noted_by x.variables.items) e ∙ ap (λ (vs : List ℕ). noted_by vs lists) all

-- ---- there is a note for each choice and each collecting goal
mutual
  pub length-insides : (g : Goal) → length (insides g) ≡ choices_in g
  length-insides (call s ts) = refl
  length-insides (choice ps) = omega (arith, length-insides_parts ps)
  length-insides (lifted n ns) = refl
  length-insides (collect t gs r) = omega (arith, length-insides_all gs)
  length-insides (lifted_collect n ns r) = refl

  pub length-insides_all : (gs : Goals) → length (insides_all gs) ≡ choices_in_all gs
  length-insides_all no_goals = refl
  length-insides_all (more_goals g gs) = omega (arith, length-append (insides g) (insides_all gs), length-insides g, length-insides_all gs)

  pub length-insides_parts : (ps : Parts) → length (insides_parts ps) ≡ choices_in_parts ps
  length-insides_parts no_parts = refl
  length-insides_parts (more_parts gs op hs ps) =
      omega (arith, length-append (insides_all gs ++ insides_all hs) (insides_parts ps), length-append (insides_all gs) (insides_all hs), length-insides_all gs, length-insides_all hs, length-insides_parts ps)

-- ---- what has been noted, and what is left
pub record NotesGoals (found_first : List ℕ) (noted_first : List Noted) (gs : Goals) (found : List ℕ) (noted : List Noted) (rest : Goals) : Type 0 where
  pub found_are : found ++ outer_all rest ≡ found_first ++ outer_all gs
  pub noted_are : noted ++ insides_all rest ≡ noted_first ++ insides_all gs

pub notes_goals_turn : {found_first found found' : List ℕ} {noted_first noted noted' : List Noted} {gs : Goals} (xs : List SourceGoal) (i : ℕ) (x : SourceGoal) → i < length xs → x ≡ get_or xs i x
    → NotesGoals found_first noted_first gs found noted (goals (map goal (drop i xs))) → found' ≡ found ++ outer (goal x) → noted' ≡ noted ++ insides (goal x)
    → NotesGoals found_first noted_first gs found' noted' (goals (map goal (drop (i + 1) xs)))
notes_goals_turn {found = found} {noted = noted} xs i x h e s f n = record {
  found_are = lists_turn found (outer (goal x)) (outer_all (goals (map goal (drop i xs)))) _ _ _ f (ap outer_all (goals_dropped xs i x h e)) s.found_are;
  noted_are = lists_turn noted (insides (goal x)) (insides_all (goals (map goal (drop i xs)))) _ _ _ n (ap insides_all (goals_dropped xs i x h e)) s.noted_are;
}

pub record NotedGoals (found_first : List ℕ) (noted_first : List Noted) (gs : Goals) (found : List ℕ) (noted : List Noted) : Type 0 where
  pub found_are : found ≡ found_first ++ outer_all gs
  pub noted_are : noted ≡ noted_first ++ insides_all gs

pub notes_goals_end : {found_first found : List ℕ} {noted_first noted : List Noted} {gs : Goals} (xs : List SourceGoal) (i : ℕ) → length xs ≤ i
    → NotesGoals found_first noted_first gs found noted (goals (map goal (drop i xs))) → NotedGoals found_first noted_first gs found noted
notes_goals_end {found = found} {noted = noted} xs i h s =
    let dropped : drop i xs ≡ [] = drop_all i xs h in
    let t = rw dropped at s in
    record { found_are = sym (append-nil found) ∙ t.found_are; noted_are = sym (append-nil noted) ∙ t.noted_are }

pub record NotesParts (noted_first : List Noted) (ps : Parts) (lists : List (List ℕ)) (noted : List Noted) (rest : Parts) : Type 0 where
  pub lists_are : lists ++ outer_parts rest ≡ outer_parts ps
  pub noted_are : noted ++ insides_parts rest ≡ noted_first ++ insides_parts ps

pub notes_parts_turn : {noted_first noted noted' : List Noted} {ps : Parts} (xs : List SourcePart) (i : ℕ) (x : SourcePart) (lists : List (Vec ℕ Global)) (found : Vec ℕ Global) → i < length xs → x ≡ get_or xs i x
    → NotesParts noted_first ps (map (λ v. v.items) lists) noted (parts (map part (drop i xs))) → found.items ≡ outer_part x → noted' ≡ noted ++ insides_part x
    → NotesParts noted_first ps (map (λ v. v.items) (lists ++ found ∷ [])) noted' (parts (map part (drop (i + 1) xs)))
notes_parts_turn {noted = noted} xs i x lists found h e s f n = record {
  lists_are = piece_turn (λ (v : Vec ℕ Global). v.items) lists found (outer_part x) (outer_parts (parts (map part (drop i xs)))) _ _ f (ap outer_parts (parts_dropped xs i x h e)) s.lists_are;
  noted_are = lists_turn noted (insides_part x) (insides_parts (parts (map part (drop i xs)))) _ _ _ n (ap insides_parts (parts_dropped xs i x h e)) s.noted_are;
}

pub record NotedParts (noted_first : List Noted) (ps : Parts) (lists : List (List ℕ)) (noted : List Noted) : Type 0 where
  pub lists_are : lists ≡ outer_parts ps
  pub noted_are : noted ≡ noted_first ++ insides_parts ps

pub notes_parts_end : {noted_first noted : List Noted} {ps : Parts} {lists : List (List ℕ)} (xs : List SourcePart) (i : ℕ) → length xs ≤ i
    → NotesParts noted_first ps lists noted (parts (map part (drop i xs))) → NotedParts noted_first ps lists noted
notes_parts_end {noted = noted} {lists = lists} xs i h s =
    let dropped : drop i xs ≡ [] = drop_all i xs h in
    let t = rw dropped at s in
    record { lists_are = sym (append-nil lists) ∙ t.lists_are; noted_are = sym (append-nil noted) ∙ t.noted_are }
