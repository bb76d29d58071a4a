use Rattle.std.proofs.Common.{◌≡◌, ◌++◌, Some, Ok}
use Rattle.std.specs.FinMap.{entries}
use Rattle.std.specs.List.{All, flat_map}
use Rattle.ini_text.specs.Content.{content_of}
use Rattle.eds_device.specs.Faults.{device_of}
use Rattle.co_project.specs.Tables.{text_at}
use Rattle.project_messages.specs.Messages.{by_name}
use Rattle.co_diag.specs.Lines.{lines_at}
use Rattle.co_diag.proofs.texts.find_skipped_lines.Given as goal

-- each text that is left is that of its name and of a device, and with the lines of those they are all
abbrev pub invariant-loop-name : goal.invariant-loop-name
invariant-loop-name l = record {
  there : All (λ e. text_at l.library.project.texts e.0 ≡ Some e.1) (by_name l.name-iterator);
  device : All (λ e. device_of e.1 ≡ Ok (content_of e.1)) (by_name l.name-iterator);
  lines : l.found.items ++ flat_map (λ e. lines_at l.library.project e.0) (by_name l.name-iterator)
      ≡ l.fn.found.items ++ flat_map (λ e. lines_at l.library.project e.0) (entries l.library.project.texts);
}
