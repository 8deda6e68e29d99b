use Rattle.std.proofs.Common.{ap, sym, ◌∙◌}
use Rattle.std.specs.Prelude.{codes}
use Rattle.spec_meaning.specs.Value.{Number, Text}
use Rattle.xp_functions.proofs.Words.{tested, version_is, vendor_is, url_is, no_property, version_chars, vendor_chars, vendor_url_chars, xt_chars, url_chars}
use Rattle.xp_functions.proofs.name.system_property.Goals as goal

pub returns-then-is_xslt : goal.returns-then-is_xslt
returns-then-is_xslt c = ap Number c.version.ensures ∙ sym (version_is c.args.name.now (tested c.args.name.now (codes "version") c.is_xslt.result _ version_chars c.is_xslt.ensures c.if-is_xslt.true))

pub returns-then-is_xslt-2 : goal.returns-then-is_xslt-2
returns-then-is_xslt-2 c =
    ap Text (c.in_ok-vendor.ensures {u = tt} ∙ xt_chars) ∙ sym (vendor_is c.args.name.now (tested c.args.name.now (codes "version") c.is_xslt.result _ version_chars c.is_xslt.ensures c.if-is_xslt.false) (tested c.args.name.now (codes "vendor") c.is_xslt-2.result _ vendor_chars c.is_xslt-2.ensures c.if-is_xslt-2.true))

pub returns-then-is_xslt-3 : goal.returns-then-is_xslt-3
returns-then-is_xslt-3 c =
    ap Text (c.in_ok-url.ensures {u = tt} ∙ url_chars) ∙ sym (url_is c.args.name.now (tested c.args.name.now (codes "version") c.is_xslt.result _ version_chars c.is_xslt.ensures c.if-is_xslt.false) (tested c.args.name.now (codes "vendor") c.is_xslt-2.result _ vendor_chars c.is_xslt-2.ensures c.if-is_xslt-2.false)
    (tested c.args.name.now (codes "vendor-url") c.is_xslt-3.result _ vendor_url_chars c.is_xslt-3.ensures c.if-is_xslt-3.true))

pub returns : goal.returns
returns c =
    ap Text c.new.ensures ∙ sym (no_property c.args.name.now (tested c.args.name.now (codes "version") c.is_xslt.result _ version_chars c.is_xslt.ensures c.if-is_xslt.false) (tested c.args.name.now (codes "vendor") c.is_xslt-2.result _ vendor_chars c.is_xslt-2.ensures c.if-is_xslt-2.false)
    (tested c.args.name.now (codes "vendor-url") c.is_xslt-3.result _ vendor_url_chars c.is_xslt-3.ensures c.if-is_xslt-3.false))
