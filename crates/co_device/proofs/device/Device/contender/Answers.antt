use Rattle.co_device.proofs.device.Device.contender.Goals as goal

pub returns : goal.returns
returns c = rw (← c.self.view_is) (rw c.device_sender.ensures at c.contender.ensures)
