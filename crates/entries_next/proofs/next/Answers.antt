use Rattle.entries_next.proofs.next.Goals as goal

pub returns-in-Time : goal.returns-in-Time
returns-in-Time c = rw c.in-Time.is (c.after_time.ensures c.args.version)
