use Rattle.std.proofs.Common.{Err, refl}
use Rattle.std.specs.Prelude.{codes}
use Rattle.xt_wire.specs.View.{rest_of}
use Rattle.xt_wire.specs.declared.fault.WireFault.TheVariants.{BadArguments}
use Rattle.xt_wire.proofs.Taken.{reads_as, not_asked}
use Rattle.xt_wire.proofs.command.read_words.Goals as goal

pub returns-in-source : goal.returns-in-source
returns-in-source c =
    reads_as c.args.word.now (codes "source") (rest_of c.args.rest) c.args.body.items c.read_source.result refl c.in-source.is c.read_source.ensures

pub returns-in-module : goal.returns-in-module
returns-in-module c =
    reads_as c.args.word.now (codes "module") (rest_of c.args.rest) c.args.body.items c.read_module.result refl c.in-module.is c.read_module.ensures

pub returns-in-show : goal.returns-in-show
returns-in-show c =
    reads_as c.args.word.now (codes "show") (rest_of c.args.rest) c.args.body.items c.read_alone.result refl c.in-show.is c.read_alone.ensures

pub returns-in-dump : goal.returns-in-dump
returns-in-dump c =
    reads_as c.args.word.now (codes "dump") (rest_of c.args.rest) c.args.body.items c.read_dump.result refl c.in-dump.is c.read_dump.ensures

pub returns-in-write : goal.returns-in-write
returns-in-write c =
    reads_as c.args.word.now (codes "write") (rest_of c.args.rest) c.args.body.items c.read_alone-in-write.result refl c.in-write.is c.read_alone-in-write.ensures

pub returns-in-param : goal.returns-in-param
returns-in-param c =
    reads_as c.args.word.now (codes "param") (rest_of c.args.rest) c.args.body.items c.read_parameter.result refl c.in-param.is c.read_parameter.ensures

pub returns-in-messages : goal.returns-in-messages
returns-in-messages c =
    reads_as c.args.word.now (codes "messages") (rest_of c.args.rest) c.args.body.items c.read_alone-in-messages.result refl c.in-messages.is c.read_alone-in-messages.ensures

pub returns-in-stats : goal.returns-in-stats
returns-in-stats c =
    reads_as c.args.word.now (codes "stats") (rest_of c.args.rest) c.args.body.items c.read_alone-in-stats.result refl c.in-stats.is c.read_alone-in-stats.ensures

pub returns-in-begin : goal.returns-in-begin
returns-in-begin c =
    reads_as c.args.word.now (codes "begin") (rest_of c.args.rest) c.args.body.items c.read_alone-in-begin.result refl c.in-begin.is c.read_alone-in-begin.ensures

pub returns-in-commit : goal.returns-in-commit
returns-in-commit c =
    reads_as c.args.word.now (codes "commit") (rest_of c.args.rest) c.args.body.items c.read_alone-in-commit.result refl c.in-commit.is c.read_alone-in-commit.ensures

pub returns-in-abandon : goal.returns-in-abandon
returns-in-abandon c =
    reads_as c.args.word.now (codes "abandon") (rest_of c.args.rest) c.args.body.items c.read_alone-in-abandon.result refl c.in-abandon.is c.read_alone-in-abandon.ensures

pub returns-in-insert : goal.returns-in-insert
returns-in-insert c =
    reads_as c.args.word.now (codes "insert") (rest_of c.args.rest) c.args.body.items c.read_insert.result refl c.in-insert.is c.read_insert.ensures

pub returns-in-delete : goal.returns-in-delete
returns-in-delete c =
    reads_as c.args.word.now (codes "delete") (rest_of c.args.rest) c.args.body.items c.read_delete.result refl c.in-delete.is c.read_delete.ensures

pub returns-in-text : goal.returns-in-text
returns-in-text c =
    reads_as c.args.word.now (codes "text") (rest_of c.args.rest) c.args.body.items c.read_set_text.result refl c.in-text.is c.read_set_text.ensures

pub returns-in-attr : goal.returns-in-attr
returns-in-attr c =
    reads_as c.args.word.now (codes "attr") (rest_of c.args.rest) c.args.body.items c.read_set_attribute.result refl c.in-attr.is c.read_set_attribute.ensures

pub returns-in-unattr : goal.returns-in-unattr
returns-in-unattr c =
    reads_as c.args.word.now (codes "unattr") (rest_of c.args.rest) c.args.body.items c.read_remove_attribute.result refl c.in-unattr.is c.read_remove_attribute.ensures

pub returns-in-rename : goal.returns-in-rename
returns-in-rename c =
    reads_as c.args.word.now (codes "rename") (rest_of c.args.rest) c.args.body.items c.read_rename.result refl c.in-rename.is c.read_rename.ensures

pub returns-in-move : goal.returns-in-move
returns-in-move c =
    reads_as c.args.word.now (codes "move") (rest_of c.args.rest) c.args.body.items c.read_move.result refl c.in-move.is c.read_move.ensures

pub returns-in-drop : goal.returns-in-drop
returns-in-drop c =
    reads_as c.args.word.now (codes "drop") (rest_of c.args.rest) c.args.body.items c.read_drop.result refl c.in-drop.is c.read_drop.ensures

pub returns-in-quit : goal.returns-in-quit
returns-in-quit c = reads_as c.args.word.now (codes "quit") (rest_of c.args.rest) c.args.body.items (Err BadArguments) refl c.in-quit.is refl

pub returns-in_default : goal.returns-in_default
returns-in_default c =
    not_asked c.args.word.now (rest_of c.args.rest) c.args.body.items c.utf8.word (record {
      not_source = c.in_default.not-source;
      not_module = c.in_default.not-module;
      not_show = c.in_default.not-show;
      not_dump = c.in_default.not-dump;
      not_write = c.in_default.not-write;
      not_param = c.in_default.not-param;
      not_messages = c.in_default.not-messages;
      not_stats = c.in_default.not-stats;
      not_begin = c.in_default.not-begin;
      not_commit = c.in_default.not-commit;
      not_abandon = c.in_default.not-abandon;
      not_insert = c.in_default.not-insert;
      not_delete = c.in_default.not-delete;
      not_text = c.in_default.not-text;
      not_attr = c.in_default.not-attr;
      not_unattr = c.in_default.not-unattr;
      not_rename = c.in_default.not-rename;
      not_move = c.in_default.not-move;
      not_drop = c.in_default.not-drop;
      not_quit = c.in_default.not-quit;
    })
