use Rattle.std.proofs.Common.{rules, ◌≡◌, ◌<◌, ◌-◌, ◌∷◌, ◌++◌, ℕ, List, [], length, map, get_or, take, drop, None, vec_len, subst, sym, ◌∙◌, ap, arith}
use Rattle.std.proofs.lemmas.List.{length-map}
use Rattle.std.proofs.Math.Seq.{take-append_seam}
use Rattle.std.proofs.lemmas.Option.{slice_get-get_or}
use Rattle.cycle_marks.specs.declared.search.Mark.{Mark}
use Rattle.cycle_marks.specs.Searching.{State, AreMarked, GoesOn, left}
use Rattle.cycle_marks.proofs.Steps.{nodes-within, part-within, finish-step}
use Rattle.cycle_marks.proofs.search.Search.finish.Goals as goal

pub comes_back-cyclic-requires-clause-rows : goal.comes_back-cyclic-requires-clause-rows
comes_back-cyclic-requires-clause-rows c = λ k d h.
    let w : get_or c.args.self.now.nodes k d < length (map (λ v. v.items) c.args.rows.now) = nodes-within (map (λ v. v.items) c.args.rows.now) None c.args.self.now c.requires.search k (get_or c.args.self.now.nodes k d) (slice_get-get_or c.args.self.now.nodes k d h) in
    simp length-map at w

pub mark_done-requires : goal.mark_done-requires
mark_done-requires c = λ k d h.
    let nodes : c.deref.result.now ≡ c.args.self.now.nodes = search rules in
    let marks : c.deref_mut.result.now ≡ c.args.self.now.marks = search rules in
    let all : (i e : ℕ) → i < length (take (length c.deref.result.now - c.args.base.node) (drop c.args.base.node c.deref.result.now)) → get_or (take (length c.deref.result.now - c.args.base.node) (drop c.args.base.node c.deref.result.now)) i e < length c.args.self.now.marks =
    subst (λ (xs : List ℕ). (i e : ℕ) → i < length (take (length xs - c.args.base.node) (drop c.args.base.node xs)) → get_or (take (length xs - c.args.base.node) (drop c.args.base.node xs)) i e < length c.args.self.now.marks) (sym nodes) (part-within (map (λ v. v.items) c.args.rows.now) c.args.self.now c.args.base c.requires.last c.requires.search) in
    let l : length c.deref_mut.result.now ≡ length c.args.self.now.marks = ap length marks in
    let z : get_or (take (length c.deref.result.now - c.args.base.node) (drop c.args.base.node c.deref.result.now)) k d < length c.args.self.now.marks = all k d h in
    omega (arith, l, z)

pub returns-clause-goes_on : goal.returns-clause-goes_on
returns-clause-goes_on c =
    let rows : List (List ℕ) = map (λ v. v.items) c.args.rows.now in
    let s : State = c.args.self.now in
    let edges : c.self.inside.edges.items ≡ s.edges = ap (λ (z : State). z.edges) c.self.view_is in
    let nodes : c.deref.result.now ≡ s.nodes = search rules in
    let marks : c.deref_mut.result.now ≡ s.marks = search rules in
    let length_is : c.self.inside.marks.len ≡ length c.self.inside.marks.items = search rules in
    let same_size : c.self.inside.marks.len ≡ length c.mark_done.new.marks = length_is ∙ ap (λ (z : State). length z.marks) c.self.view_is ∙ ap length (sym marks) ∙ sym c.mark_done.ensures.size in
    let whole : take c.self.inside.marks.len (c.mark_done.new.marks ++ drop (length c.mark_done.new.marks) c.self.inside.marks.items) ≡ c.mark_done.new.marks =
    ap (λ (n : ℕ). take n (c.mark_done.new.marks ++ drop (length c.mark_done.new.marks) c.self.inside.marks.items)) same_size ∙ take-append_seam c.mark_done.new.marks (drop (length c.mark_done.new.marks) c.self.inside.marks.items) in
    let number : c.len-number.result ≡ length s.cyclic = search rules in
    let marked : AreMarked (take (length s.nodes - c.args.base.node) (drop c.args.base.node s.nodes)) c.len-number.result s.marks c.mark_done.new.marks =
    subst (λ (xs : List ℕ). AreMarked (take (length xs - c.args.base.node) (drop c.args.base.node xs)) c.len-number.result s.marks c.mark_done.new.marks) nodes
    (subst (λ (ms : List Mark). AreMarked (take (length c.deref.result.now - c.args.base.node) (drop c.args.base.node c.deref.result.now)) c.len-number.result ms c.mark_done.new.marks) marks c.mark_done.ensures) in
    let kept : c.truncate.new.self.items ≡ take c.args.base.node s.nodes = c.truncate.ensures.items ∙ ap (λ (z : State). take c.args.base.node z.nodes) c.self.view_is in
    let size : vec_len c.self.inside.path ≡ length c.self.inside.path.items = search rules in
    let rest : c.pop.new.self.items ≡ take (length s.path - 1) s.path =
    c.pop.ensures.rest ∙ ap (λ (n : ℕ). take (n - 1) c.self.inside.path.items) size ∙ ap (λ (z : State). take (length z.path - 1) z.path) c.self.view_is in
    let flags : c.push.new.self.items ≡ s.cyclic ++ c.comes_back-cyclic.result ∷ [] = c.in_ok-push.ensures.items ∙ ap (λ (z : State). z.cyclic ++ c.comes_back-cyclic.result ∷ []) c.self.view_is in
    subst (λ (ms : List Mark). GoesOn rows s (record { marks = ms; nodes = c.truncate.new.self.items; edges = c.self.inside.edges.items; path = c.pop.new.self.items; cyclic = c.push.new.self.items })) (sym whole)
    (subst (λ (es : List ℕ). GoesOn rows s (record { marks = c.mark_done.new.marks; nodes = c.truncate.new.self.items; edges = es; path = c.pop.new.self.items; cyclic = c.push.new.self.items })) (sym edges)
    (finish-step rows s c.args.base c.requires.last c.requires.search c.mark_done.new.marks c.truncate.new.self.items c.pop.new.self.items c.push.new.self.items c.comes_back-cyclic.result c.len-number.result c.requires.followed c.comes_back-cyclic.ensures number marked kept rest flags).0)

pub returns-clause-left : goal.returns-clause-left
returns-clause-left c =
    let rows : List (List ℕ) = map (λ v. v.items) c.args.rows.now in
    let s : State = c.args.self.now in
    let edges : c.self.inside.edges.items ≡ s.edges = ap (λ (z : State). z.edges) c.self.view_is in
    let nodes : c.deref.result.now ≡ s.nodes = search rules in
    let marks : c.deref_mut.result.now ≡ s.marks = search rules in
    let length_is : c.self.inside.marks.len ≡ length c.self.inside.marks.items = search rules in
    let same_size : c.self.inside.marks.len ≡ length c.mark_done.new.marks = length_is ∙ ap (λ (z : State). length z.marks) c.self.view_is ∙ ap length (sym marks) ∙ sym c.mark_done.ensures.size in
    let whole : take c.self.inside.marks.len (c.mark_done.new.marks ++ drop (length c.mark_done.new.marks) c.self.inside.marks.items) ≡ c.mark_done.new.marks =
    ap (λ (n : ℕ). take n (c.mark_done.new.marks ++ drop (length c.mark_done.new.marks) c.self.inside.marks.items)) same_size ∙ take-append_seam c.mark_done.new.marks (drop (length c.mark_done.new.marks) c.self.inside.marks.items) in
    let number : c.len-number.result ≡ length s.cyclic = search rules in
    let marked : AreMarked (take (length s.nodes - c.args.base.node) (drop c.args.base.node s.nodes)) c.len-number.result s.marks c.mark_done.new.marks =
    subst (λ (xs : List ℕ). AreMarked (take (length xs - c.args.base.node) (drop c.args.base.node xs)) c.len-number.result s.marks c.mark_done.new.marks) nodes
    (subst (λ (ms : List Mark). AreMarked (take (length c.deref.result.now - c.args.base.node) (drop c.args.base.node c.deref.result.now)) c.len-number.result ms c.mark_done.new.marks) marks c.mark_done.ensures) in
    let kept : c.truncate.new.self.items ≡ take c.args.base.node s.nodes = c.truncate.ensures.items ∙ ap (λ (z : State). take c.args.base.node z.nodes) c.self.view_is in
    let size : vec_len c.self.inside.path ≡ length c.self.inside.path.items = search rules in
    let rest : c.pop.new.self.items ≡ take (length s.path - 1) s.path =
    c.pop.ensures.rest ∙ ap (λ (n : ℕ). take (n - 1) c.self.inside.path.items) size ∙ ap (λ (z : State). take (length z.path - 1) z.path) c.self.view_is in
    let flags : c.push.new.self.items ≡ s.cyclic ++ c.comes_back-cyclic.result ∷ [] = c.in_ok-push.ensures.items ∙ ap (λ (z : State). z.cyclic ++ c.comes_back-cyclic.result ∷ []) c.self.view_is in
    subst (λ (ms : List Mark). left (record { marks = ms; nodes = c.truncate.new.self.items; edges = c.self.inside.edges.items; path = c.pop.new.self.items; cyclic = c.push.new.self.items }) < left s) (sym whole)
    (subst (λ (es : List ℕ). left (record { marks = c.mark_done.new.marks; nodes = c.truncate.new.self.items; edges = es; path = c.pop.new.self.items; cyclic = c.push.new.self.items }) < left s) (sym edges)
    (finish-step rows s c.args.base c.requires.last c.requires.search c.mark_done.new.marks c.truncate.new.self.items c.pop.new.self.items c.push.new.self.items c.comes_back-cyclic.result c.len-number.result c.requires.followed c.comes_back-cyclic.ensures number marked kept rest flags).1)
