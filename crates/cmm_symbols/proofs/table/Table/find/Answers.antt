use Rattle.std.proofs.Common.{◌<◌, length, arith}
use Rattle.cmm_symbols.proofs.Positions.{number_within, nothing_found, what_found}
use Rattle.cmm_symbols.proofs.table.Table.find.Goals as goal

pub offset_bounds-as_slice-number : goal.offset_bounds-as_slice-number
offset_bounds-as_slice-number g c =
    let below : c.in-Some.number < length c.as_slice.result.now = number_within c.args.name.now c.args.self.now.declared c.as_slice.result.now c.in-Some.number c.as_slice.ensures c.in-Some.ensures in omega arith

pub bounds-as_slice-number : goal.bounds-as_slice-number
bounds-as_slice-number g c = number_within c.args.name.now c.args.self.now.declared c.as_slice.result.now c.in-Some.number c.as_slice.ensures c.in-Some.ensures

pub bounds-as_slice-number-in-Some : goal.bounds-as_slice-number-in-Some
bounds-as_slice-number-in-Some g c = number_within c.args.name.now c.args.self.now.declared c.as_slice.result.now c.in-Some.number c.as_slice.ensures c.in-Some.ensures

pub returns-in-Some : goal.returns-in-Some
returns-in-Some g c = what_found c.args.name.now c.args.self.now.declared c.as_slice.result.now c.in-Some.number c.index-as_slice-number.result c.as_slice.ensures c.in-Some.ensures

pub returns-in-None : goal.returns-in-None
returns-in-None g c = nothing_found c.args.name.now c.args.self.now.declared c.in-None.ensures
