mod Arms
mod Fitting
mod PlacedRows
