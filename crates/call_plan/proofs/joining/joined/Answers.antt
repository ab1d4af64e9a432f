use Rattle.std.proofs.lemmas.Option.{IfSome_then}
use Rattle.std.proofs.lemmas.Result.{IfOk-weaker}
use Rattle.call_plan.proofs.joining.joined.Goals as goal

pub store_joined-requires-clause-apart : goal.store_joined-requires-clause-apart
store_joined-requires-clause-apart c = rw c.in-Store.is at c.requires.apart

pub returns-in-Plain : goal.returns-in-Plain
returns-in-Plain c =
    let path = c.args.path.now in
    let plain = rw c.in-Plain.is at c.requires.plain in
    let known = rw c.in-Plain.is at c.requires.solved in
    let apart = rw c.in-Plain.is at c.requires.apart in
    rw c.in-Plain.is
    (record {
      joins = IfOk-weaker c.plain_joined.result _ _
          (λ found h. IfSome_then found h (λ t j. let k = j path c.requires.some plain known apart in record { holds = k.holds; promoted = k.joins.promoted })) c.plain_joined.ensures.joins;
      free = IfOk-weaker c.plain_joined.result _ _ (λ found h. IfSome_then found h (λ t j. let k = j path c.requires.some plain known apart in k.joins.free)) c.plain_joined.ensures.joins;
      kept = IfOk-weaker c.plain_joined.result _ _ (λ found h. IfSome_then found h (λ t j. let k = j path c.requires.some plain known apart in k.joins.kept)) c.plain_joined.ensures.joins;
      frames = c.plain_joined.ensures.frames;
    })
