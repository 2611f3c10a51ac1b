-- What proofs of other crates may cite: that expressions are judged alike whatever stands for their values, what holds of names in
-- ascending order, what stands inside statements and items, first faults and loops that note them, and the names in expressions.
pub use Rattle.cmm_static_semantics.proofs.Alike.{judged_alike}
pub use Rattle.cmm_static_semantics.proofs.Ascending.{among_append, among_in_order, all_in_order, in_order_ascends, is_in_order, same_order}
pub use Rattle.cmm_static_semantics.proofs.Inside.{hidden_parts, shown_parts, if_inside, span_inside, switch_inside, in_arms, else_inside, else_if_inside, span_item_inside}
pub use Rattle.cmm_static_semantics.proofs.Firsts.{first_by_append, first_of_append, taken, mapped_next, flat_next, flat_plain, noted_next, noted_at, noted_next_of, grown, on_ok, on_err, rest_next}
pub use Rattle.cmm_static_semantics.proofs.Mentioned.{infix_law, prefix_law, named_law, bracketed_law, memory_law}
