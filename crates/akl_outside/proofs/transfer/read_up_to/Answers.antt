use Rattle.std.proofs.Common.{rules, arith, length-append, length-take, ℕ, List, take, ◌++◌, ◌≡◌, sym, ap, ◌∙◌, subst, refl}
use Rattle.std.proofs.lemmas.List.{append-nil, take-append-le}
use Rattle.std.specs.Io.KnownBytes.{prepend_known}
use Rattle.std.proofs.lemmas.Result.{err_from_is_err_and}
use Rattle.akl_outside.specs.Transfer.{Moves}
use Rattle.akl_outside.specs.Transfer.Moves.{begin}
use Rattle.akl_outside.proofs.Pieces.{prepend_known-nil, prepend_known-append, moves_on}
use Rattle.akl_outside.proofs.transfer.read_up_to.Goals as goal

pub loop-chunk-init : goal.loop-chunk-init
loop-chunk-init g c = record {
  within = omega (arith, c.new-bytes.ensures.len);
  chunk = refl;
  read = prepend_known-nil _ _ c.new-bytes.ensures.items;
  calls = subst (λ (bytes : List ℕ). Moves g.S.Source.read_gives c.args.source.now bytes c.args.source.now) (sym c.new-bytes.ensures.items) begin;
  later = omega arith;
}

-- the last read gave no bytes
pub returns-then-count-eq0-clause-reads : goal.returns-then-count-eq0-clause-reads
returns-then-count-eq0-clause-reads g c =
    moves_on _ _ _ _ _ _ _ c.loop-chunk.invariant.calls c.in_ok-count.ensures.gives
    (sym (append-nil c.loop-chunk.bytes.items) ∙ ap (λ (n : ℕ). c.loop-chunk.bytes.items ++ take n c.read.new.buffer) (sym c.if-count-eq0.true))

pub loop-chunk-preserved : goal.loop-chunk-preserved
loop-chunk-preserved g c =
    let kept = c.loop-chunk.invariant in
    let read = c.in_ok-count.ensures in
    let grown : c.extend_from_slice.new.self.items ≡ c.loop-chunk.bytes.items ++ take c.in_ok-count.count c.read.new.buffer =
    c.in_ok-extend_from_slice.ensures.items ∙ ap (λ (piece : List ℕ). c.loop-chunk.bytes.items ++ piece) (take-append-le _ _ _ read.count.0) in
    record {
      within = search rules;
      chunk = search rules;
      read = prepend_known-append _ _ _ _ _ kept.read read.bytes ∙ ap (λ (bytes : List ℕ). prepend_known bytes (g.S.Source.left c.read.new.self)) (sym grown);
      calls = moves_on _ _ _ _ _ _ _ kept.calls read.gives grown;
      later = omega (arith, kept.later, read.never_falls);
    }

-- the bytes of the last read were read too
pub returns-in_err-extend_from_slice-clause-err : goal.returns-in_err-extend_from_slice-clause-err
returns-in_err-extend_from_slice-clause-err g c =
    let exit = c.from_residual-in_err-extend_from_slice in
    let before = c.loop-chunk in
    let read = c.in_ok-count.ensures in
    rw (err_from_is_err_and exit.result exit.ensures.1).1 (
      before.bytes.items ++ take c.in_ok-count.count c.read.new.buffer,
      omega (arith, length-append {A = ℕ}, length-take {A = ℕ}, read.count.0, before.bytes.ok.0, before.invariant.within),
      prepend_known-append _ _ _ _ _ before.invariant.read read.bytes,
    )

pub returns-in_err-extend_from_slice-clause-stops : goal.returns-in_err-extend_from_slice-clause-stops
returns-in_err-extend_from_slice-clause-stops g c =
    let exit = c.from_residual-in_err-extend_from_slice in
    let before = c.loop-chunk in
    let read = c.in_ok-count.ensures in
    let error = err_from_is_err_and exit.result exit.ensures.1 in
    rw (error.1, error.2) (
      before.bytes.items ++ take c.in_ok-count.count c.read.new.buffer,
      omega (arith, length-append {A = ℕ}, length-take {A = ℕ}, read.count.0, before.bytes.ok.0, before.invariant.within),
      moves_on _ _ _ _ _ _ _ before.invariant.calls read.gives refl,
    )
