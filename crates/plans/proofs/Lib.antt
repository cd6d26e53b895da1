mod EmptyPattern
