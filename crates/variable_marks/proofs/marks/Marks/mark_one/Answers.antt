use Rattle.std.proofs.Common.{◌≡◌, None, Some, sym, ap, ◌∙◌, ◌⊎◌, inl, inr}
use Rattle.std.specs.Option.{option_copied_mut}
use Rattle.std.specs.BTreeMap.{get}
use Rattle.variable_marks.proofs.InFrames.{is_some_if, key, names_back, as_value, marked_one, over_old, over_all}
use Rattle.variable_marks.proofs.marks.Marks.mark_one.Goals as goal
use Rattle.variable_marks.proofs.marks.Marks.mark_one.Goals.{then-is_from, else-is_from}

pub returns-in-Some : goal.returns-in-Some
returns-in-Some c =
    let old = c.in-Some.marks.now in
    let new = c.set.new.self in
    let is = sym c.get_mut.follows.claims.0 ∙ ap option_copied_mut c.in-Some.is in
    let puts = ((c.get_mut.follows.holds new).3 (is_some_if _ old is)).0 in
    marked_one c.args.variable c.args.number c.self.inside.others c.self.inside.frames (c.get_mut.follows.lender new) (Some old) new is puts (over_old new old c.args.variable.index c.args.number c.in_ok-set.ensures) c.args.self.now c.self.view_is

-- the mark of the other variables of a frame that had none
all_others : (c : goal.Joined-branch-4) → (c.if-is_from.others ≡ c.args.number) ⊎ (c.if-is_from.others ≡ c.self.inside.others)
all_others c = elim c.if-is_from.branch [ then-is_from w ↦ inl w.others-is | else-is_from w ↦ inr w.others-is ]

pub returns : goal.returns
returns c =
    let n = c.args.number in
    let others = c.self.inside.others in
    let new = c.in_ok-marks.marks in
    let there = c.get_mut.follows.holds-at-none in
    let none = sym c.get_mut.follows.claims.0 ∙ ap option_copied_mut c.in_default.is in
    marked_one c.args.variable n others c.get_mut.follows.lender-at-none c.insert.new.self None new (ap (λ t. get names_back t (key c.args.variable.frame)) there ∙ none) c.in_ok-insert.ensures.updates.0
    (over_all new c.if-is_from.others others c.args.variable.index n (all_others c) c.in_ok-marks.ensures) c.args.self.now (ap (λ t. as_value t others) there ∙ c.self.view_is)
