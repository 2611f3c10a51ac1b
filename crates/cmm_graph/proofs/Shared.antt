-- What proofs of other crates may cite: a notation for graphs of worked rows.
pub use Rattle.cmm_graph.proofs.Notation.{n, s, k, variable, v, t, num, code, arg, set_variable, set_temporary, op, test, exits, graph, status_after}
