-- What proofs of other crates may cite: loops over what is listed, and the link names under which units export something.
pub use Rattle.cmm_linkage.proofs.Gathering.{listed_next, links_of_all}
