use Rattle.chr_book.proofs.Sheets.{sheet_given, sheet_dropped}
use Rattle.chr_book.proofs.book.Book.give_or_drop.Goals as goal

pub returns-in_default : goal.returns-in_default
returns-in_default g c = sheet_dropped c.args.self.now c.sheet.new.self c.drop_goal.new.self c.args.seat c.args.ticket c.args.most c.in-Ok.sheet c.drop_goal.result c.in_default.not-Trials c.in-Ok.ensures c.drop_goal.ensures

pub returns : goal.returns
returns g c = sheet_given c.args.self.now c.sheet.new.self c.args.seat c.args.ticket c.args.most c.in-Ok.sheet c.in-Trials.trials c.in-Trials.is c.in-Ok.ensures
