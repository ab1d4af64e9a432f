use Rattle.std.proofs.Common.{◌≡◌, None, sym, subst, map, Err, length, ◌≤◌, arith}
use Rattle.akl_syntax.specs.Answers.{clause_view, clauses_view}
use Rattle.akl_syntax.specs.Sizes.{clauses_size}
use Rattle.clause_keys.specs.Conditions.{AreUnmixed}
use Rattle.clause_checks.specs.Accepted.{AreAccepted}
use Rattle.clause_checks.specs.Refusals.{refusal_of, Answers}
use Rattle.akl_lift.specs.Lifting.{lifted_clauses}
use Rattle.clause_store.specs.Loaded.{IsProgramOf}
use Rattle.akl_run.specs.Loads.{ProgramStops, no_memory}
use Rattle.akl_run.proofs.Loading.{stops_as, from_error, program_text_stops, program_loading_stops, counted_clauses}
use Rattle.akl_run.proofs.ReadTexts.{as_program, program_small}
use Rattle.akl_run.proofs.Lifted.{lifted_load, lifted_unmixed, lifted_alone, lifted_small, program_numbers}
use Rattle.akl_run.proofs.loaded.load_program.Goals as goal

pub returns-in-Err-clause-stop : goal.returns-in-Err-clause-stop
returns-in-Err-clause-stop c = program_text_stops c.args.text.now c.in-Err.error c.text.result c.in-Err.ensures.reads c.text.ensures

pub returns-in_err-clauses-clause-stop : goal.returns-in_err-clauses-clause-stop
returns-in_err-clauses-clause-stop c = from_error c.from_residual.result c.from_residual.ensures.1 (λ stop p. stops_as (ProgramStops c.args.text.now) _ _ stop p no_memory)

pub check_clauses-requires : goal.check_clauses-requires
check_clauses-requires c = record { small = subst (λ xs. clauses_size (map clause_view xs) ≤ 1000000) (sym c.deref.ensures.value) (program_small (as_program c.in-Ok.ensures.reads c.in_ok-clauses.ensures)) }

pub returns-in-Err-check_clauses-clause-stop : goal.returns-in-Err-check_clauses-clause-stop
returns-in-Err-check_clauses-clause-stop c =
    program_loading_stops c.args.text.now (clauses_view c.in_ok-clauses.clauses) c.in-Err-check_clauses.error c.loading.result (as_program c.in-Ok.ensures.reads c.in_ok-clauses.ensures)
    (subst (λ xs. Answers (refusal_of (map clause_view xs)) (Err c.in-Err-check_clauses.error)) c.deref.ensures.value c.in-Err-check_clauses.ensures.checked) c.loading.ensures

pub lift-requires : goal.lift-requires
lift-requires c = program_small (as_program c.in-Ok.ensures.reads c.in_ok-clauses.ensures)

pub returns-in_err-lifted-clause-stop : goal.returns-in_err-lifted-clause-stop
returns-in_err-lifted-clause-stop c = from_error c.from_residual-in_err-lifted.result c.from_residual-in_err-lifted.ensures.1 (λ stop p. stops_as (ProgramStops c.args.text.now) _ _ stop p no_memory)

pub load-requires-clause-loadable : goal.load-requires-clause-loadable
load-requires-clause-loadable c =
    let accepted : AreAccepted (clauses_view c.in_ok-clauses.clauses) = subst (λ xs. AreAccepted (map clause_view xs)) c.deref.ensures.value c.in_default.ensures.accepted in
    rw c.in_ok-lifted.ensures.lifted (lifted_load c.args.text.now (clauses_view c.in_ok-clauses.clauses) (as_program c.in-Ok.ensures.reads c.in_ok-clauses.ensures) accepted)

pub load-requires-clause-unmixed : goal.load-requires-clause-unmixed
load-requires-clause-unmixed c =
    let accepted : AreAccepted (clauses_view c.in_ok-clauses.clauses) = subst (λ xs. AreAccepted (map clause_view xs)) c.deref.ensures.value c.in_default.ensures.accepted in
    let unmixed : AreUnmixed (clauses_view c.in_ok-clauses.clauses) = subst (λ xs. AreUnmixed (map clause_view xs)) c.deref.ensures.value c.in_default.ensures.unmixed in
    rw c.in_ok-lifted.ensures.lifted (lifted_unmixed c.args.text.now (clauses_view c.in_ok-clauses.clauses) (as_program c.in-Ok.ensures.reads c.in_ok-clauses.ensures) accepted unmixed)

pub load-requires-clause-alone : goal.load-requires-clause-alone
load-requires-clause-alone c =
    let accepted : AreAccepted (clauses_view c.in_ok-clauses.clauses) = subst (λ xs. AreAccepted (map clause_view xs)) c.deref.ensures.value c.in_default.ensures.accepted in
    rw c.in_ok-lifted.ensures.lifted (lifted_alone c.args.text.now (clauses_view c.in_ok-clauses.clauses) (as_program c.in-Ok.ensures.reads c.in_ok-clauses.ensures) accepted)

pub load-requires-clause-small : goal.load-requires-clause-small
load-requires-clause-small c =
    let accepted : AreAccepted (clauses_view c.in_ok-clauses.clauses) = subst (λ xs. AreAccepted (map clause_view xs)) c.deref.ensures.value c.in_default.ensures.accepted in
    let small : clauses_size (lifted_clauses (clauses_view c.in_ok-clauses.clauses)) ≤ 514000000 = lifted_small c.args.text.now (clauses_view c.in_ok-clauses.clauses) (as_program c.in-Ok.ensures.reads c.in_ok-clauses.ensures) accepted in
    rw c.in_ok-lifted.ensures.lifted (omega (arith, small))

pub returns-in_err-load-clause-stop : goal.returns-in_err-load-clause-stop
returns-in_err-load-clause-stop c = from_error c.from_residual-in_err-load.result c.from_residual-in_err-load.ensures.1 (λ stop p. stops_as (ProgramStops c.args.text.now) _ _ stop p no_memory)

pub returns-clause-program : goal.returns-clause-program
returns-clause-program c = record {
  clauses = clauses_view c.in_ok-clauses.clauses;
  reads = as_program c.in-Ok.ensures.reads c.in_ok-clauses.ensures;
  allowed = subst (λ xs. refusal_of (map clause_view xs) ≡ None) c.deref.ensures.value c.in_default.ensures.checked;
  stands = subst (λ xs. IsProgramOf xs c.in_ok-load.field-0) c.in_ok-lifted.ensures.lifted c.in_ok-load.ensures.program;
}

pub returns-clause-open : goal.returns-clause-open
returns-clause-open c =
    let cs = clauses_view c.in_ok-clauses.clauses in
    let accepted : AreAccepted cs = subst (λ xs. AreAccepted (map clause_view xs)) c.deref.ensures.value c.in_default.ensures.accepted in
    let small : clauses_size (lifted_clauses cs) ≤ 514000000 = lifted_small c.args.text.now cs (as_program c.in-Ok.ensures.reads c.in_ok-clauses.ensures) accepted in
    let size : clauses_size (clauses_view c.in_ok-lifted.lifted) ≤ 514000000 = rw c.in_ok-lifted.ensures.lifted small in
    let counted : length c.in_ok-lifted.lifted.items ≤ clauses_size (clauses_view c.in_ok-lifted.lifted) = counted_clauses c.in_ok-lifted.lifted in
    let stands : IsProgramOf (lifted_clauses cs) c.in_ok-load.field-0 = subst (λ xs. IsProgramOf xs c.in_ok-load.field-0) c.in_ok-lifted.ensures.lifted c.in_ok-load.ensures.program in
    record {
      unique = c.in_ok-load.ensures.unique;
      nodes = omega (arith, size, c.in_ok-load.ensures.nodes);
      symbols = omega (arith, size, c.in_ok-load.ensures.symbols);
      definitions = omega (arith, size, c.in_ok-load.ensures.definitions, counted);
      numbers = program_numbers c.args.text.now cs (as_program c.in-Ok.ensures.reads c.in_ok-clauses.ensures) accepted c.in_ok-load.field-0 stands;
    }
