mod JoinedRows
mod TextRows
