use mathlib.Core.Path.{sym, ap}
use Rattle.rules.specs.ListWords.{most_word}
use Rattle.layout.proofs.most_word.Goals as goal

pub returns-in-Column : goal.returns-in-Column
returns-in-Column c = sym (ap most_word c.in-Column.is)

pub returns-in-Code : goal.returns-in-Code
returns-in-Code c = sym (ap most_word c.in-Code.is)

pub returns-in-Frame : goal.returns-in-Frame
returns-in-Frame c = sym (ap most_word c.in-Frame.is)
