use Rattle.workbench.proofs.workbench.Workbench.told.Goals as goal

pub returns-clause-traces : goal.returns-clause-traces
returns-clause-traces c =
    let traced = c.in_ok-told.ensures.traced in
    rw (← c.self.view_is) record {
      between = c.refresh_all.new.meter;
      end = traced.0;
      parts = c.in_ok-refresh_all.ensures.brings;
      traced = traced.1.0;
      store = traced.1.1;
      work = traced.1.2;
      capacity = c.traced.ensures.capacity;
    }
