use mathlib.Core.Path.{sym, ap}
use Rattle.rules.specs.ListWords.{offset}
use Rattle.layout.proofs.offset.Goals as goal

pub returns-in-Column : goal.returns-in-Column
returns-in-Column c = sym (ap offset c.in-Column.is)

pub returns-in-Code : goal.returns-in-Code
returns-in-Code c = sym (ap offset c.in-Code.is)

pub returns-in-Frame : goal.returns-in-Frame
returns-in-Frame c = sym (ap offset c.in-Frame.is)
