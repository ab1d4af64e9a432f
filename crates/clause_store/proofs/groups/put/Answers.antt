use Rattle.std.proofs.Common.{map, ap, ◌∙◌, arith}
use Rattle.akl_syntax.specs.Answers.{clause_view}
use Rattle.clause_store.proofs.Gathered.{put_in, put_next, one_behind}
use Rattle.clause_store.proofs.groups.put.Goals as goal
use Rattle.clause_store.proofs.groups.put.Goals.{then-at-len+in_ok-push, else-at-len}

pub returns : goal.returns
returns c =
    let behind = one_behind c.index_mut.result.now c.push-2.new.self c.args.clause c.in_ok-push-2.ensures.items in
    elim c.if-at-len.branch [
      | then-at-len+in_ok-push w ↦
          let is = ap (λ v. v.items) w.groups-is ∙ w.in_ok-push.ensures.items in
          rw is (put_next c.args.groups.now.items c.args.at w.new.result c.index_mut.result.now c.push-2.new.self (clause_view c.args.clause) (omega (arith, w.if-at-len.true, c.len.ensures, c.args.groups.now.ok)) (rw is at c.index_mut.ensures.value)
          (ap (map clause_view) w.new.ensures.items) behind)
      | else-at-len w ↦
          let is = ap (λ v. v.items) w.groups-is in
          rw is (put_in c.args.groups.now.items c.args.at c.index_mut.result.now c.push-2.new.self (clause_view c.args.clause) (omega (arith, w.if-at-len.false, c.requires, c.len.ensures, c.args.groups.now.ok)) (rw is at c.index_mut.ensures.value) behind)
    ]
