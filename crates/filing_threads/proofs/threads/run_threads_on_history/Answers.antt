use Rattle.filing_threads.proofs.threads.run_threads_on_history.Goals as goal

pub returns-in-Ok : goal.returns-in-Ok
returns-in-Ok g c = record {
  goes = c.in-Ok.ensures.goes;
  all = c.in-Ok.all_replies.items;
  ran = c.in-Ok.ensures.ran;
  writes = c.write_replies.ensures;
}
