use Rattle.cmm_linkage.proofs.Gathering.{links_added}
use Rattle.cmm_linkage.proofs.linkage.add_export.Goals as goal

pub returns-clause-links : goal.returns-clause-links
returns-clause-links c =
    links_added c.args.links.now c.add.new.self c.args.exports.now c.push.new.self (record { link = c.export_link-link.result; entry = c.entry_of-entry.result })
    c.in_ok-push.ensures.ok c.in_ok-add.ensures.names
