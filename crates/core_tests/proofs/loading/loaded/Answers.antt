use Rattle.akl_run.proofs.Evaluated.{loaded_shown}
use Rattle.core_tests.proofs.loading.loaded.Goals as goal

pub returns-in-Ok-load_asked-clause-shown : goal.returns-in-Ok-load_asked-clause-shown
returns-in-Ok-load_asked-clause-shown c =
    loaded_shown c.as_bytes-program.result.now c.as_bytes-query.result.now c.in-Ok-load_asked.loaded (record { base = c.in-Ok.base; is_program = c.in-Ok.ensures.program; is_query = c.in-Ok-load_asked.ensures.loaded })
