use Rattle.bus_devices.proofs.SenderLemmas.{best_of_both}
use Rattle.bus_devices.proofs.outlook.Outlook.add.Goals as goal

pub returns-clause-alarm : goal.returns-clause-alarm
returns-clause-alarm c ds es one other = c.and-self.ensures.devices ds es one other

pub returns-clause-best : goal.returns-clause-best
returns-clause-best c ds es one other =
    best_of_both ds es c.args.self.now.best c.args.other.now.best c.keep_winner.new.best one other c.keep_winner.ensures
